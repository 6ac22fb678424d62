-- What is used of a report that a sink takes piece by piece.
use Rattle.std.proofs.Common.{◌≡◌, ℕ, ◌+◌, ◌<◌, Bool, count_by, length, get_or, List, [], ◌∷◌, ◌++◌, Option, Result, Ok, Err, OnErr, take, drop, ◌∙◌, refl, sym, ap, subst, append_assoc, append-nil, take-append-drop, arith}
use Rattle.std.proofs.lemmas.Grind.{flat_map-append}
use Rattle.std.proofs.lemmas.List.{take_more}
use Rattle.std.proofs.lemmas.List.Sums.{sum_by-append}
use Rattle.smm_base.specs.Sink.{appended, GainsPrefix, appended-append, appended-nil, GainsPrefix-whole, GainsPrefix-longer, GainsPrefix-after}
use Rattle.sync_words.specs.declared.event.Event.{Event}
use Rattle.sync_words.specs.Texts.{event_line}
use Rattle.replay_report.specs.declared.report.Counts.{Counts}
use Rattle.replay_report.specs.Report.{is_end, is_wave, is_served, one_if, AreCounts, IsBuffered, event_lines}

-- nothing was taken yet
pub buffered_start : (before : Option (List ℕ)) (buffer : List ℕ) → IsBuffered before before buffer buffer
buffered_start before buffer = record { taken = []; took = sym (appended-nil before); joins = refl }

-- a text more, of which the sink takes a part together with what was in the buffer
pub buffered_further : (first second third : Option (List ℕ)) (buffer buffer' text more : List ℕ) → IsBuffered first second buffer text → IsBuffered second third buffer' (buffer ++ more) → IsBuffered first third buffer' (text ++ more)
buffered_further first second third buffer buffer' text more held further = record {
  taken = held.taken ++ further.taken;
  took = further.took ∙ ap (λ bytes. appended bytes further.taken) held.took ∙ appended-append first held.taken further.taken;
  joins = ap (λ xs. xs ++ more) held.joins ∙ append_assoc held.taken buffer more ∙ ap (λ xs. held.taken ++ xs) further.joins ∙ sym (append_assoc held.taken further.taken buffer');
}

-- what the sink gains of the buffer it gains of the text
pub buffered_prefix : (first second third : Option (List ℕ)) (buffer text : List ℕ) → IsBuffered first second buffer text → GainsPrefix second third buffer → GainsPrefix first third text
buffered_prefix first second third buffer text held gains =
    let P : List ℕ → Type 0 = λ xs. GainsPrefix first third xs in
    let Q : Option (List ℕ) → Type 0 = λ bytes. GainsPrefix bytes third buffer in
    subst P (sym held.joins) (GainsPrefix-after first third held.taken buffer (subst Q held.took gains))

-- what the sink took is a front part of the text
pub buffered_gained : (first second : Option (List ℕ)) (buffer text : List ℕ) → IsBuffered first second buffer text → GainsPrefix first second text
buffered_gained first second buffer text held =
    let P : List ℕ → Type 0 = λ xs. GainsPrefix first second xs in
    subst P (sym held.joins) (GainsPrefix-longer first second held.taken buffer (GainsPrefix-whole first second held.taken held.took))

-- a front part of the first events' lines is one of all the events' lines
pub lines_prefix : (before after : Option (List ℕ)) (processors n : ℕ) (events : List Event) → GainsPrefix before after (event_lines processors (take n events)) → GainsPrefix before after (event_lines processors events)
lines_prefix before after processors n events gains =
    let P : List ℕ → Type 0 = λ xs. GainsPrefix before after xs in
    let all : event_lines processors (take n events) ++ event_lines processors (drop n events) ≡ event_lines processors events =
    sym (flat_map-append _ (take n events) (drop n events)) ∙ ap (event_lines processors) (take-append-drop n events) in
    subst P all (GainsPrefix-longer before after _ _ gains)

-- one event's line more, of which the sink takes a part together with what was in the buffer
pub buffered_line : (first second third : Option (List ℕ)) (buffer buffer' : List ℕ) (processors i : ℕ) (events : List Event) (other : Event) → i < length events → IsBuffered first second buffer (event_lines processors (take i events)) → IsBuffered second third buffer' (buffer ++ event_line processors (get_or events i other)) → IsBuffered first third buffer' (event_lines processors (take (i + 1) events))
buffered_line first second third buffer buffer' processors i events other within held further =
    let P : List ℕ → Type 0 = λ xs. IsBuffered first third buffer' xs in
    let more : event_lines processors (take i events) ++ event_line processors (get_or events i other) ≡ event_lines processors (take (i + 1) events) =
    ap (λ xs. event_lines processors (take i events) ++ xs) (sym (append-nil (event_line processors (get_or events i other))))
    ∙ sym (flat_map-append (event_line processors) (take i events) (get_or events i other ∷ []))
    ∙ ap (event_lines processors) (sym (take_more events i other within)) in
    subst P more (buffered_further first second third buffer buffer' (event_lines processors (take i events)) (event_line processors (get_or events i other)) held further)

-- what holds anyway holds where there is an error
pub on_err_anyway : {T E : Type 0} (result : Result T E) (P : Type 0) → P → OnErr result P
on_err_anyway (Ok _) P holds = tt
on_err_anyway (Err _) P holds = holds

-- where there is an error, what follows from what holds there
pub on_err_follows : {T E : Type 0} (result : Result T E) (P Q : Type 0) → (P → Q) → OnErr result P → OnErr result Q
on_err_follows (Ok _) P Q follows holds = tt
on_err_follows (Err _) P Q follows holds = follows holds

-- one event more is counted
pub counted_more : (test : Event → Bool) (events : List Event) (i n : ℕ) (other : Event) → i < length events → n ≡ count_by test (take i events) → n + one_if (test (get_or events i other)) ≡ count_by test (take (i + 1) events)
counted_more test events i n other within is =
    let last : 0 + one_if (test (get_or events i other)) ≡ one_if (test (get_or events i other)) = omega arith in
    ap (λ k. k + one_if (test (get_or events i other))) is
    ∙ ap (λ k. count_by test (take i events) + k) (sym last)
    ∙ sym (sum_by-append (λ event. one_if (test event)) (take i events) (get_or events i other ∷ []))
    ∙ ap (count_by test) (sym (take_more events i other within))

pub counts_more : (counts more : Counts) (events : List Event) (i : ℕ) (other : Event) → i < length events → AreCounts counts (take i events)
    → more.sessions ≡ counts.sessions + one_if (is_end (get_or events i other).label) → more.announced ≡ counts.announced + one_if (is_wave (get_or events i other).label)
    → more.served ≡ counts.served + one_if (is_served (get_or events i other).label) → AreCounts more (take (i + 1) events)
counts_more counts more events i other within are sessions announced served = record {
  sessions = sessions ∙ counted_more (λ event. is_end event.label) events i counts.sessions other within are.sessions;
  announced = announced ∙ counted_more (λ event. is_wave event.label) events i counts.announced other within are.announced;
  served = served ∙ counted_more (λ event. is_served event.label) events i counts.served other within are.served;
}
