-- What an actor that makes no event says of the word at which it stands.
use Rattle.std.proofs.Common.{ℕ, ◌+◌, ◌-◌, ◌%◌, ◌≡◌, ◌≢◌, ◌<◌, ◌≤◌, ◌⊎◌, inl, inr, ⊎_elim, Bool, true, false, Option, Some, None, refl, sym, ◌∙◌}
use Rattle.std.specs.Prelude.{is_some, ◌==◌, ◌||◌, nat_lt, if◌then◌else◌}
use Rattle.std.proofs.lemmas.Bool.{eqb-true, eqb-false, ltb-false, ne_eqb}
use Rattle.sync_words.specs.declared.access.Access.{Access}
use Rattle.sync_words.specs.declared.access.Access.TheVariants.{Look, Put, Up, Down, Lower, Lock, Claim, Await, Seek, Signal, TakeSmi, ClearSmi, Raise}
use Rattle.sync_words.specs.declared.access.Applied.{Applied}
use Rattle.sync_words.specs.declared.access.Applied.TheVariants.{Changed, Same, NotReady}
use Rattle.sync_words.specs.declared.access.TheConstants.{LOCKED}
use Rattle.sync_words.specs.declared.event.Hand.{Hand}
use Rattle.sync_words.specs.declared.event.Hand.TheVariants.{Nothing, Give, Take}
use Rattle.sync_words.specs.declared.event.Want.{Want}
use Rattle.sync_words.specs.declared.event.Want.TheVariants as want
use Rattle.sync_words.specs.declared.word.WordId.{WordId}
use Rattle.sync_words.specs.Access.{applied}
use Rattle.handler_ops.specs.declared.desk.Desk.{Desk}
use Rattle.handler_ops.specs.Course.{desk_of}
use Rattle.cpu_program.specs.declared.cargo.Cargo.{Cargo}
use Rattle.cpu_program.specs.Actors.{Actor, Processor}
use Rattle.cpu_program.specs.Hands.{thing_given, desk_given}
use Rattle.cpu_program.specs.Programs.{gift_of, want_of}
use Rattle.rendezvous_core.specs.Worlds.{World, Words, Lying, Turn, Moves, Waits, Rests, read, lying_on, gives, takes, accesses, turn_wanting, turn, turned, MakesNoEvent}

-- the number on which an access isn't ready
abbrev pub WaitsOn : ℕ → Access → Type 0
WaitsOn v Look = ⊥
WaitsOn v (Put x) = ⊥
WaitsOn v Up = ⊥
WaitsOn v Down = v ≡ 0
WaitsOn v Lower = ⊥
WaitsOn v Lock = ⊥
WaitsOn v (Claim a b) = ⊥
WaitsOn v (Await a b) = v ≢ a
WaitsOn v (Seek n) = n ≤ v
WaitsOn v Signal = ⊥
WaitsOn v TakeSmi = (v ≢ 4) × (v ≢ 1)
WaitsOn v ClearSmi = ⊥
WaitsOn v (Raise x) = v % 8 ≡ 1

-- the number on which an access with a hand changes the word
abbrev pub ChangesOn : ℕ → Access → Type 0
ChangesOn v Down = v ≢ 0
ChangesOn v (Claim a b) = v ≡ a
ChangesOn v (Await a b) = v ≡ a
ChangesOn v _ = Unit {0}

abbrev pub Unready : Applied → Type 0
Unready (NotReady v) = Unit {0}
Unready (Same v) = ⊥
Unready (Changed x v) = ⊥

abbrev pub Changing : Applied → Type 0
Changing (NotReady v) = ⊥
Changing (Same v) = ⊥
Changing (Changed x v) = Unit {0}

by_test : (P : Applied → Type 0) (b : Bool) (x y : Applied) → P (if b then x else y) → ((b ≡ true) × P x) ⊎ ((b ≡ false) × P y)
by_test P true x y h = inl (refl, h)
by_test P false x y h = inr (refl, h)

never : (b : Bool) (x y : Applied) → (Unready x → ⊥) → (Unready y → ⊥) → Unready (if b then x else y) → ⊥
never true x y f g h = f h
never false x y f g h = g h

waits_on : (v : ℕ) (a : Access) → Unready (applied v a) → WaitsOn v a
waits_on v Look h = h
waits_on v (Put x) h = h
waits_on v Up h = never (v == LOCKED) (Same v) (Changed (v + 1) v) (λ z. z) (λ z. z) h
waits_on v Down h =
    ⊎_elim (λ (z : ((v == 0) ≡ true) × Unready (NotReady v)). eqb-true v 0 z.0) (λ (z : ((v == 0) ≡ false) × Unready (Changed (v - 1) v)). absurd z.1)
    (by_test Unready (v == 0) (NotReady v) (Changed (v - 1) v) h)
waits_on v Lower h = never (v == LOCKED || v == 0) (Same v) (Changed (v - 1) v) (λ z. z) (λ z. z) h
waits_on v Lock h = h
waits_on v (Claim a b) h = never (v == a) (Changed b v) (Same v) (λ z. z) (λ z. z) h
waits_on v (Await a b) h =
    ⊎_elim
    (λ (z : ((v == a) ≡ true) × Unready (if a == b then Same v else Changed b v)). absurd (never (a == b) (Same v) (Changed b v) (λ y. y) (λ y. y) z.1))
    (λ (z : ((v == a) ≡ false) × Unready (NotReady v)). eqb-false v a z.0)
    (by_test Unready (v == a) (if a == b then Same v else Changed b v) (NotReady v) h)
waits_on v (Seek n) h =
    ⊎_elim (λ (z : (nat_lt v n ≡ true) × Unready (Same v)). absurd z.1) (λ (z : (nat_lt v n ≡ false) × Unready (NotReady v)). ltb-false v n z.0)
    (by_test Unready (nat_lt v n) (Same v) (NotReady v) h)
waits_on v Signal h = never (v % 8 == 0 || v % 8 == 2) (Changed (v - v % 8 + 1) v) (Same v) (λ z. z) (λ z. z) h
waits_on v TakeSmi h =
    ⊎_elim
    (λ (z : ((v == 4) ≡ true) × Unready (Same v)). absurd z.1)
    (λ (z : ((v == 4) ≡ false) × Unready (if v == 1 then Changed 8 v else NotReady v)).
    ⊎_elim
    (λ (y : ((v == 1) ≡ true) × Unready (Changed 8 v)). absurd y.1)
    (λ (y : ((v == 1) ≡ false) × Unready (NotReady v)). (eqb-false v 4 z.0, eqb-false v 1 y.0))
    (by_test Unready (v == 1) (Changed 8 v) (NotReady v) z.1))
    (by_test Unready (v == 4) (Same v) (if v == 1 then Changed 8 v else NotReady v) h)
waits_on v ClearSmi h = never (nat_lt v 8) (Same v) (Changed (v - 8) v) (λ z. z) (λ z. z) h
waits_on v (Raise x) h =
    ⊎_elim
    (λ (z : ((v % 8 == 4) ≡ true) × Unready (Same v)). absurd z.1)
    (λ (z : ((v % 8 == 4) ≡ false) × Unready (if v % 8 == 1 then NotReady v else Changed (v - v % 8 + x) v)).
    ⊎_elim
    (λ (y : ((v % 8 == 1) ≡ true) × Unready (NotReady v)). eqb-true (v % 8) 1 y.0)
    (λ (y : ((v % 8 == 1) ≡ false) × Unready (Changed (v - v % 8 + x) v)). absurd y.1)
    (by_test Unready (v % 8 == 1) (NotReady v) (Changed (v - v % 8 + x) v) z.1))
    (by_test Unready (v % 8 == 4) (Same v) (if v % 8 == 1 then NotReady v else Changed (v - v % 8 + x) v) h)

changes_on : (v : ℕ) (a : Access) → Changing (applied v a) → ChangesOn v a
changes_on v Down h =
    ⊎_elim (λ (z : ((v == 0) ≡ true) × Changing (NotReady v)). absurd z.1) (λ (z : ((v == 0) ≡ false) × Changing (Changed (v - 1) v)). eqb-false v 0 z.0)
    (by_test Changing (v == 0) (NotReady v) (Changed (v - 1) v) h)
changes_on v (Claim a b) h =
    ⊎_elim (λ (z : ((v == a) ≡ true) × Changing (Changed b v)). eqb-true v a z.0) (λ (z : ((v == a) ≡ false) × Changing (Same v)). absurd z.1)
    (by_test Changing (v == a) (Changed b v) (Same v) h)
changes_on v (Await a b) h =
    ⊎_elim (λ (z : ((v == a) ≡ true) × Changing (if a == b then Same v else Changed b v)). eqb-true v a z.0) (λ (z : ((v == a) ≡ false) × Changing (NotReady v)). absurd z.1)
    (by_test Changing (v == a) (if a == b then Same v else Changed b v) (NotReady v) h)
changes_on v _ h = tt

-- TURNS

-- no event comes of the turn
abbrev pub Idle : Turn → Type 0
Idle (Moves e words lying a) = ⊥
Idle (Waits found) = Unit {0}
Idle Rests = Unit {0}

pub turned_idle : (w : World) (me : ℕ) (t : Turn) → MakesNoEvent (turned w me t).0 → Idle t
turned_idle w me (Moves e words lying a) h = h
turned_idle w me (Waits found) h = tt
turned_idle w me Rests h = tt

-- What is wanted isn't ready, or would change hands and isn't there; or nothing is wanted.
abbrev pub HandWaits : ℕ → Lying → Actor → WordId → Access → Hand → Type 0
HandWaits v lying a word access Nothing = WaitsOn v access
HandWaits v lying a word access (Give k) = WaitsOn v access ⊎ (ChangesOn v access × (gift_of a ≡ None))
HandWaits v lying a word access (Take k) = WaitsOn v access ⊎ (ChangesOn v access × (lying_on lying word ≡ None))

abbrev pub IsWaiting : Words → Lying → Actor → Want → Type 0
IsWaiting words lying a want.Off = Unit {0}
IsWaiting words lying a (want.Access word access hand) = HandWaits (read words word) lying a word access hand

gives_none : (words : Words) (lying : Lying) (me : ℕ) (word : WordId) (access : Access) (new found : ℕ) (a : Actor) (o : Option Cargo)
    → Idle (gives words lying me word access new found a o) → o ≡ None
gives_none words lying me word access new found a None h = refl
gives_none words lying me word access new found a (Some x) h = absurd h

takes_none : (words : Words) (lying : Lying) (me : ℕ) (word : WordId) (access : Access) (new found : ℕ) (a : Actor) (o : Option Cargo)
    → Idle (takes words lying me word access new found a o) → o ≡ None
takes_none words lying me word access new found a None h = refl
takes_none words lying me word access new found a (Some x) h = absurd h

idle_access : (words : Words) (lying : Lying) (me : ℕ) (word : WordId) (access : Access) (hand : Hand) (a : Actor) (v : ℕ) (x : Applied)
    → (Unready x → WaitsOn v access) → (Changing x → ChangesOn v access) → Idle (accesses words lying me word access hand a x)
    → HandWaits v lying a word access hand
idle_access words lying me word access Nothing a v (NotReady found) f g h = f tt
idle_access words lying me word access (Give k) a v (NotReady found) f g h = inl (f tt)
idle_access words lying me word access (Take k) a v (NotReady found) f g h = inl (f tt)
idle_access words lying me word access hand a v (Same found) f g h = absurd h
idle_access words lying me word access Nothing a v (Changed new found) f g h = absurd h
idle_access words lying me word access (Give k) a v (Changed new found) f g h = inr (g tt, gives_none words lying me word access new found a (gift_of a) h)
idle_access words lying me word access (Take k) a v (Changed new found) f g h = inr (g tt, takes_none words lying me word access new found a (lying_on lying word) h)

idle_wanting : (words : Words) (lying : Lying) (me : ℕ) (a : Actor) (x : Want) → Idle (turn_wanting words lying me a x) → IsWaiting words lying a x
idle_wanting words lying me a want.Off h = tt
idle_wanting words lying me a (want.Access word access hand) h =
    let v : ℕ = read words word in
    idle_access words lying me word access hand a v (applied v access) (waits_on v access) (changes_on v access) h

pub idle_waits : (words : Words) (lying : Lying) (me : ℕ) (a : Actor) → Idle (turn words lying me a) → IsWaiting words lying a (want_of a)
idle_waits words lying me a h = idle_wanting words lying me a (want_of a) h

-- WHAT CHANGES HANDS IS THERE

pub some_none : {A : Type 0} (o : Option A) (x : A) → o ≡ Some x → o ≡ None → ⊥
some_none {A} o x e h = let y = sym e ∙ h in cc

desk_none : (p : Processor) (o : Option Desk) (x : Desk) → o ≡ Some x → desk_given p o ≡ None → ⊥
desk_none p None x e h = cc
desk_none p (Some desk) x e h = cc

-- a desk that the processor has is given
pub desk_gift : (p : Processor) (k : ℕ) (x : Desk) → k ≢ p.setup.processors → desk_of p.held k ≡ Some x → thing_given p k ≡ None → ⊥
desk_gift p k x n e h =
    let y : desk_given p (desk_of p.held k) ≡ None = rw (ne_eqb k p.setup.processors n) at h in
    desk_none p (desk_of p.held k) x e y

given_none : (p : Processor) (o : Option Desk) → desk_given p o ≡ None → is_some o ≡ false
given_none p None h = refl
given_none p (Some desk) h = cc

-- one that isn't given isn't there
pub gift_none : (p : Processor) (k : ℕ) → k ≢ p.setup.processors → thing_given p k ≡ None → is_some (desk_of p.held k) ≡ false
gift_none p k n h =
    let y : desk_given p (desk_of p.held k) ≡ None = rw (ne_eqb k p.setup.processors n) at h in
    given_none p (desk_of p.held k) y
