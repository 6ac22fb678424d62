use Rattle.std.proofs.Common.{rules, ◌≡◌, subst, sym}
use Rattle.sync_words.specs.declared.event.Want.{Want}
use Rattle.sync_words.specs.Steps.{IsWantWithin}
use Rattle.chipset.specs.Bounds.{IsChipset}
use Rattle.chipset.specs.Chipsets.{Chipset, want_at_row}
use Rattle.chipset.proofs.StepLemmas.{chipset_within}
use Rattle.chipset.proofs.chipset.Chipset.want.Goals as goal

pub returns-in-Some-AnnounceBlocked-clause-within : goal.returns-in-Some-AnnounceBlocked-clause-within
returns-in-Some-AnnounceBlocked-clause-within c =
    let now : Chipset = c.args.self.now in
    let value : c.wants.result ≡ want_at_row now.row now = search rules in
    subst (λ (w : Want). IsWantWithin now.setup.processors w) (sym value) (chipset_within now (subst IsChipset c.self.view_is c.self.invariant))
