-- What a label that may be said wants of the place.
use Rattle.std.proofs.Common.{◌≡◌, ◌<◌, ◌≤◌, ◌⊎◌, ℕ, Bool, true, false, Option, Some, None, refl, inl, inr}
use Rattle.std.proofs.lemmas.Bool.{and_parts, cases_lt, le-leb, ltb-true}
use Rattle.std.specs.Prelude.{◌&&◌, ◌||◌, ◌==◌, not, nat_le, nat_lt, is_none, if◌then◌else◌}
use Rattle.smm_base.specs.declared.registers.Register.{Register}
use Rattle.smm_base.specs.declared.status.Status.{Status}
use Rattle.cpu_table.specs.declared.handlers.OpDef.{OpDef}
use Rattle.cpu_table.specs.declared.handlers.OpDef.TheVariants as op
use Rattle.sync_words.specs.declared.label.Label.{Label}
use Rattle.sync_words.specs.declared.label.Label.TheVariants as say
use Rattle.sync_words.specs.declared.label.StartRefusal.{StartRefusal}
use Rattle.sync_words.specs.declared.label.StartRefusal.TheVariants as cause
use Rattle.serving_place.specs.Beginning.{program_of}
use Rattle.serving_place.specs.Due.{Due, Nothing, Saying, Awaiting, Doing, due}
use Rattle.serving_place.specs.Operations.{procedure_place}
use Rattle.serving_place.specs.Sayings.{HasRoom, operation_due}
use Rattle.serving_place.specs.Serving.{Serving, tokens_out}
use Rattle.serving_place.specs.Setting.{Setting, first_cause}
use Rattle.serving_judge.specs.Dues.{start_of, start_due, width_due, HasTokenRoom}
use Rattle.serving_judge.specs.Judging.{setting_of}
use Rattle.serving_judge.specs.Tests.{accepts_own}
use Rattle.serving_judge.proofs.Fitting.{read_width}
use Rattle.rendezvous_machine.specs.Refusals.{or_else}
use Rattle.trace_check.specs.Judged.{Judged, Session, setup_of, member}
use Rattle.trace_members.specs.Members.{is_out, is_least, is_finished}
use Rattle.trace_check.specs.Verdicts.{in_session, leads, has_list, can_say, is_over, is_served, refusal_by, refusal_in, serves, verdict}
use Rattle.trace_check.specs.Afterwards.{MayBeSaid, CanFollow}

led : (j : Judged) (i : ℕ) (test : Session → Bool) (o : Option Session) → in_session o (λ s. s.bsp == i && test s) ≡ true → (s : Session) × (test s ≡ true)
led j i test None e = absurd cc
led j i test (Some s) e = (s, (and_parts (s.bsp == i) (test s) e).1)

taken : (j : Judged) (l : Label) (s : Session) → can_say j l s ≡ true → accepts_own (program_of (setup_of j)) j.judging.place l ≡ true
taken j l s e = (and_parts (has_list s) _ e).1

-- the place takes what the boot processor can say
pub accepts : (j : Judged) (i : ℕ) (l : Label) → leads j i (can_say j l) ≡ true → accepts_own (program_of (setup_of j)) j.judging.place l ≡ true
accepts j i l e = let x = led j i (can_say j l) j.session e in taken j l x.0 x.1

-- a read has the width of the one that is due
pub read_bytes : (j : Judged) (i c w x : ℕ) (r : Register) (S : Status) → leads j i (can_say j (say.Read c r w x S)) ≡ true
    → width_due (due (program_of (setup_of j)) j.judging.place) ≡ Some w
read_bytes j i c w x r S e =
    read_width (setup_of j).procedures j.judging.place.state (due (program_of (setup_of j)) j.judging.place) c w x r S (accepts j i (say.Read c r w x S) e)

-- ROOM FOR A TOKEN

no_first : (first later : Option StartRefusal) → is_none (or_else first later) ≡ true → first ≡ None
no_first None later e = refl
no_first (Some x) later e = absurd cc

room_by : (a b c d : Bool) (w x y z : StartRefusal) → (if a then Some w else (if b then Some x else (if c then Some y else (if d then Some z else None)))) ≡ None → d ≡ false
room_by true b c d w x y z e = absurd cc
room_by false true c d w x y z e = absurd cc
room_by false false true d w x y z e = absurd cc
room_by false false false true w x y z e = absurd cc
room_by false false false false w x y z e = refl

below : (n : ℕ) → nat_le 64 n ≡ false → n < 64
below n e = elim (cases_lt n 64) [
  | inl h ↦ h
  | inr h ↦ let t : nat_le 64 n ≡ true = le-leb 64 n h in absurd (cc)
]

room_for : (t : Setting) (s : Serving) (o : OpDef) (j : Judged) → is_none (refusal_by j (start_of t s o)) ≡ true → HasRoom o (tokens_out s)
room_for t s (op.Launch cpu name arg into) j e =
    below (tokens_out s)
    (room_by (not (nat_lt cpu t.processors)) (cpu == t.me) (is_none (procedure_place t.program.procedures name)) (nat_le 64 (tokens_out s))
    cause.OutOfRange cause.BootProcessor cause.UnknownProcedure cause.Tokens
    (no_first (first_cause t s true cpu (procedure_place t.program.procedures name)) _ e))
room_for t s _ j e = tt

token_room : (t : Setting) (s : Serving) (d : Due) (j : Judged) (c n p a : ℕ) → is_none (refusal_by j (start_due t s d)) ≡ true
    → HasTokenRoom (say.Start c n p a) (operation_due d) (tokens_out s)
token_room t s Nothing j c n p a e = tt
token_room t s (Saying l) j c n p a e = tt
token_room t s (Awaiting k) j c n p a e = tt
token_room t s (Doing k o) j c n p a e = room_for t s o j e

-- WHAT MAY BE SAID

collect_says : (j : Judged) (c : ℕ) (s : Session) → (can_say j (say.Collect c) s || (is_served j s && is_least j.members c)) ≡ true → CanFollow j (say.Collect c)
collect_says j c s e more = by_test (can_say j (say.Collect c) s) refl e
  where
    by_test : (b : Bool) → can_say j (say.Collect c) s ≡ b → (b || (is_served j s && is_least j.members c)) ≡ true → MayBeSaid j (say.Collect c)
    by_test true t f = (taken j (say.Collect c) s t, tt)
    by_test false t f =
        let over : is_over j ≡ true = (and_parts (has_list s) (is_over j) (and_parts (is_served j s) (is_least j.members c) f).0).1 in
        absurd (cc)

pub serves_says : (j : Judged) (i : ℕ) (l : Label) → serves j i l ≡ true → CanFollow j l
serves_says j i (say.Read c register width x S) e = (accepts j i (say.Read c register width x S) (and_parts (leads j i (can_say j (say.Read c register width x S))) _ e).0, tt)
serves_says j i (say.Write c register width x S) e = (accepts j i (say.Write c register width x S) (and_parts (leads j i (can_say j (say.Write c register width x S))) _ e).0, tt)
serves_says j i (say.Refuse c cause) e = (accepts j i (say.Refuse c cause) (and_parts (leads j i (can_say j (say.Refuse c cause))) _ e).0, tt)
serves_says j i (say.Start c n p a) e =
    let h = and_parts (leads j i (can_say j (say.Start c n p a))) (is_none (refusal_in j) && is_none (member j c).job) e in (
      accepts j i (say.Start c n p a) h.0,
      token_room (setting_of j.judging) j.judging.place.state (due (program_of (setup_of j)) j.judging.place) j c n p a (and_parts (is_none (refusal_in j)) (is_none (member j c).job) h.1).0,
    )
serves_says j i (say.Collect c) e =
    let h = and_parts (leads j i (λ s. can_say j (say.Collect c) s || (is_served j s && is_least j.members c))) (is_finished (member j c).job) e in
    let x = led j i (λ s. can_say j (say.Collect c) s || (is_served j s && is_least j.members c)) j.session h.0 in
    collect_says j c x.0 x.1
serves_says j i l e = (accepts j i l e, tt)

-- a processor that enters has visits left
pub enters : (j : Judged) (i : ℕ) → verdict j i say.Enter ≡ true → (member j i).visits < (setup_of j).visits
enters j i e =
    let h = and_parts (is_out (member j i).phase) _ e in
    ltb-true (member j i).visits (setup_of j).visits (and_parts (nat_lt (member j i).visits (setup_of j).visits) (nat_lt 0 j.waves) h.1).0
