-- What one value does to a read of the page, by its kind, and what all its values come to.
use Rattle.std.proofs.Common.{◌≡◌, ◌≢◌, ℕ, zero, suc, ◌+◌, ◌-◌, ◌%◌, ◌<◌, Bool, true, false, ◌⊎◌, List, [], ◌∷◌, ◌++◌, length, refl, sym, ap, ◌∙◌, subst, arith, Some, append_assoc, append-nil, length-append, inl, inr}
use Rattle.std.specs.Prelude.{◌==◌, if◌then◌else◌}
use Rattle.std.proofs.lemmas.Bool.{cases_Bool, eqb-true, eqb-false}
use Rattle.std.proofs.lemmas.Bool.Decides.{nat_tests}
use Rattle.clock_gate.specs.declared.act.Act.{Act}
use Rattle.clock_gate.specs.declared.act.Act.TheVariants.{Load, End}
use Rattle.clock_gate.specs.Acts.{after, WereAsked}
use Rattle.seqlock.specs.Tries.{SeqlockRead, started, failed_try, Attempt, Wants, Absent, Failed, Read, Progress, Asks, Ends, Unpublished, Found, progress, IsCalm}
use Rattle.seqlock.specs.Tries as seqlock
use Rattle.seqlock.proofs.Tries.{data_loads-all, asks-first, asks-data, asks-last, ends-read, ends-failed, takes_few_steps}
use Rattle.vmclock_page.specs.Words.{count_in_word}
use Rattle.vmclock_page.specs.PageRead.{page_lock, given, act_of, end_of, page_seen}
use Rattle.vmclock_page.specs.PageTries.{Missed, Odd, Changed, IsMissed, missed_values, first_count, last_count, AreMissed, values_of_tries, EachMissed, OneSaw, IsWanted, OneWants, TakesAWord, read_after, FollowsItsTries}
use Rattle.vmclock_page.specs.declared.page_seen.PageSeen.TheVariants.{Marker, Busy}

-- ---- one value

pub given-odd : (read : SeqlockRead) (value : ℕ) → read.values ≡ [] → count_in_word value % 2 ≡ 1 → given read value ≡ failed_try read (count_in_word value) (count_in_word value)
given-odd read value none odd =
    let test : (count_in_word value % 2 == 1) ≡ true = grind (arith, nat_tests) in
    rw (none, test) refl

pub given-even : (read : SeqlockRead) (value : ℕ) → read.values ≡ [] → count_in_word value % 2 ≡ 0 → given read value ≡ record read { values = value ∷ [] }
given-even read value none even =
    let test : (count_in_word value % 2 == 1) ≡ false = grind (arith, nat_tests) in
    rw (none, test) refl

pub given-marker : (read : SeqlockRead) (first value : ℕ) → read.values ≡ first ∷ [] → count_in_word first % 2 ≡ 0 → given read value ≡ record read { values = first ∷ value ∷ [] }
given-marker read first value one even =
    let test : (count_in_word first % 2 == 1) ≡ false = grind (arith, nat_tests) in
    rw (one, test) refl

pub given-same : (read : SeqlockRead) (first marker value : ℕ) → read.values ≡ first ∷ marker ∷ [] → count_in_word first % 2 ≡ 0 → count_in_word value ≡ count_in_word first
    → given read value ≡ record read { values = first ∷ marker ∷ value ∷ [] }
given-same read first marker value two even same =
    let test : (count_in_word first % 2 == 1) ≡ false = grind (arith, nat_tests) in
    let test_last : (count_in_word first == count_in_word value) ≡ true = grind (arith, nat_tests) in
    rw (two, test, test_last) refl

pub given-other : (read : SeqlockRead) (first marker value : ℕ) → read.values ≡ first ∷ marker ∷ [] → count_in_word first % 2 ≡ 0 → count_in_word value ≢ count_in_word first
    → given read value ≡ failed_try read (count_in_word first) (count_in_word value)
given-other read first marker value two even other =
    let test : (count_in_word first % 2 == 1) ≡ false = grind (arith, nat_tests) in
    let test_last : (count_in_word first == count_in_word value) ≡ false = grind (arith, nat_tests) in
    rw (two, test, test_last) refl

pub takes_a_word : (read : SeqlockRead) (word : ℕ) → TakesAWord read word
takes_a_word read word = record {
  odd = given-odd read word;
  even = given-even read word;
  marker = λ first. given-marker read first word;
  same = λ first marker. given-same read first marker word;
  other = λ first marker. given-other read first marker word;
}

-- ---- where a read stands

calm : (first : ℕ) → count_in_word first % 2 ≡ 0 → IsCalm page_lock first
calm first even = record { published = refl; even = even }

-- the values of a try in hand
abbrev IsInHand : List ℕ → Type 0
IsInHand [] = Unit {0}
IsInHand (first ∷ []) = count_in_word first % 2 ≡ 0
IsInHand (first ∷ marker ∷ []) = count_in_word first % 2 ≡ 0
IsInHand (first ∷ marker ∷ last ∷ []) = (count_in_word first % 2 ≡ 0) × (count_in_word last ≡ count_in_word first)
IsInHand (first ∷ marker ∷ last ∷ value ∷ values) = ⊥

-- what they come to
abbrev comes_to : List ℕ → Progress
comes_to [] = Asks 11
comes_to (first ∷ []) = Asks 12
comes_to (first ∷ marker ∷ []) = Asks 11
comes_to (first ∷ marker ∷ last ∷ values) = Ends (Found first (marker ∷ []))

progress-in_hand : (read : SeqlockRead) (values : List ℕ) → read.values ≡ values → 0 < read.left → IsInHand values → progress page_lock read ≡ comes_to values
progress-in_hand read [] is some in_hand = asks-first page_lock read some is
progress-in_hand read (first ∷ []) is some in_hand = asks-data page_lock read first [] some is (calm first in_hand) (omega arith)
progress-in_hand read (first ∷ marker ∷ []) is some in_hand = asks-last page_lock read first (marker ∷ []) some is (calm first in_hand) refl
progress-in_hand read (first ∷ marker ∷ last ∷ []) is some in_hand =
    let even = in_hand.0 in
    let same = in_hand.1 in
    let test : (count_in_word first == count_in_word last) ≡ true = grind (arith, nat_tests) in
    ends-read page_lock read first last (marker ∷ []) some is (calm first in_hand.0) refl test
progress-in_hand read (first ∷ marker ∷ last ∷ value ∷ values) is some in_hand = absurd in_hand

-- the tries that failed so far, and the last of them
abbrev IsLast : List Missed → ℕ → ℕ → Type 0
IsLast earlier first last =
    (earlier ≡ []) ⊎ ((front : List Missed) × ((final : Missed) × ((earlier ≡ front ++ final ∷ []) × ((first ≡ first_count final) × (last ≡ last_count final)))))

-- where a read of so many tries stands after these values
record Comes (tries : ℕ) (values : List ℕ) (read : SeqlockRead) : Type 0 where
  earlier : List Missed
  missed : AreMissed earlier
  count : length earlier + read.left ≡ tries
  loaded : values ≡ values_of_tries earlier ++ read.values
  numbers : IsLast earlier read.first read.last
  in_hand : IsInHand read.values
  some_left : read.values ≢ [] → 0 < read.left

values_of_tries-more : (earlier : List Missed) (final : Missed) → values_of_tries (earlier ++ final ∷ []) ≡ values_of_tries earlier ++ missed_values final
values_of_tries-more [] final = append-nil (missed_values final)
values_of_tries-more (missed ∷ earlier) final =
    ap (λ (vs : List ℕ). missed_values missed ++ vs) (values_of_tries-more earlier final) ∙ sym (append_assoc (missed_values missed) (values_of_tries earlier) (missed_values final))

are_missed-more : (earlier : List Missed) (final : Missed) → AreMissed earlier → IsMissed final → AreMissed (earlier ++ final ∷ [])
are_missed-more [] final are is = (is, tt)
are_missed-more (missed ∷ earlier) final are is = (are.0, are_missed-more earlier final are.1 is)

-- a try failed
comes-failed : (tries value : ℕ) (values : List ℕ) (read : SeqlockRead) (final : Missed) (c : Comes tries values read) → 0 < read.left → IsMissed final
    → read.values ++ value ∷ [] ≡ missed_values final → Comes tries (values ++ value ∷ []) (failed_try read (first_count final) (last_count final))
comes-failed tries value values read final c some is all = record {
  earlier = c.earlier ++ final ∷ [];
  missed = are_missed-more c.earlier final c.missed is;
  count = (let were = c.count in rw length-append (omega arith));
  loaded =
      ap (λ (vs : List ℕ). vs ++ value ∷ []) c.loaded
      ∙ append_assoc (values_of_tries c.earlier) read.values (value ∷ [])
      ∙ ap (λ (vs : List ℕ). values_of_tries c.earlier ++ vs) all
      ∙ sym (values_of_tries-more c.earlier final)
      ∙ sym (append-nil (values_of_tries (c.earlier ++ final ∷ [])));
  numbers = inr (c.earlier, (final, (refl, (refl, refl))));
  in_hand = tt;
  some_left = λ more. absurd (more refl);
}

-- a value was kept
comes-kept : (tries value : ℕ) (values kept : List ℕ) (read : SeqlockRead) (c : Comes tries values read) → 0 < read.left → IsInHand kept
    → read.values ++ value ∷ [] ≡ kept → Comes tries (values ++ value ∷ []) (record read { values = kept })
comes-kept tries value values kept read c some is all = record {
  earlier = c.earlier;
  missed = c.missed;
  count = c.count;
  loaded =
      ap (λ (vs : List ℕ). vs ++ value ∷ []) c.loaded
      ∙ append_assoc (values_of_tries c.earlier) read.values (value ∷ [])
      ∙ ap (λ (vs : List ℕ). values_of_tries c.earlier ++ vs) all;
  numbers = c.numbers;
  in_hand = is;
  some_left = λ more. some;
}

some_left : (read : SeqlockRead) → act_of read ≢ End → 0 < read.left
some_left read asked =
    elim (cases_Bool (read.left == 0)) [
      | inl none ↦ absurd (asked (ap seqlock.act_of (ends-failed page_lock read (eqb-true read.left 0 none))))
      | inr some ↦ (let more = eqb-false read.left 0 some in omega arith)
    ]

comes-by : (tries value : ℕ) (values in_hand : List ℕ) (read : SeqlockRead) → read.values ≡ in_hand → IsInHand in_hand → act_of read ≢ End → Comes tries values read → Comes tries (values ++ value ∷ []) (given read value)
comes-by tries value values [] read is in_hand asked c =
    let some = some_left read asked in
    elim (cases_Bool (count_in_word value % 2 == 1)) [
      | inl test ↦
          let odd = eqb-true (count_in_word value % 2) 1 test in
          subst (Comes tries (values ++ value ∷ [])) (sym (given-odd read value is odd)) (comes-failed tries value values read (Odd value) c some odd (ap (λ (vs : List ℕ). vs ++ value ∷ []) is))
      | inr test ↦
          let even : count_in_word value % 2 ≡ 0 = (let other = eqb-false (count_in_word value % 2) 1 test in omega arith) in
          subst (Comes tries (values ++ value ∷ [])) (sym (given-even read value is even)) (comes-kept tries value values (value ∷ []) read c some even (ap (λ (vs : List ℕ). vs ++ value ∷ []) is))
    ]
comes-by tries value values (first ∷ []) read is in_hand asked c =
    subst (Comes tries (values ++ value ∷ [])) (sym (given-marker read first value is in_hand))
    (comes-kept tries value values (first ∷ value ∷ []) read c (some_left read asked) in_hand (ap (λ (vs : List ℕ). vs ++ value ∷ []) is))
comes-by tries value values (first ∷ marker ∷ []) read is in_hand asked c =
    let some = some_left read asked in
    elim (cases_Bool (count_in_word value == count_in_word first)) [
      | inl test ↦
          let same = eqb-true (count_in_word value) (count_in_word first) test in
          subst (Comes tries (values ++ value ∷ [])) (sym (given-same read first marker value is in_hand same))
          (comes-kept tries value values (first ∷ marker ∷ value ∷ []) read c some (in_hand, same) (ap (λ (vs : List ℕ). vs ++ value ∷ []) is))
      | inr test ↦
          let other = eqb-false (count_in_word value) (count_in_word first) test in
          subst (Comes tries (values ++ value ∷ [])) (sym (given-other read first marker value is in_hand other))
          (comes-failed tries value values read (Changed first marker value) c some (in_hand, other) (ap (λ (vs : List ℕ). vs ++ value ∷ []) is))
    ]
comes-by tries value values (first ∷ marker ∷ last ∷ []) read is in_hand asked c =
    absurd (asked (ap seqlock.act_of (progress-in_hand read (first ∷ marker ∷ last ∷ []) is (some_left read asked) in_hand)))
comes-by tries value values (first ∷ marker ∷ last ∷ more ∷ later) read is in_hand asked c = absurd in_hand

comes-after : (tries : ℕ) (before values : List ℕ) (read : SeqlockRead) → WereAsked act_of given read values → Comes tries before read → Comes tries (before ++ values) (after act_of given read values)
comes-after tries before [] read asked c = subst (λ (vs : List ℕ). Comes tries vs read) (sym (append-nil before)) c
comes-after tries before (value ∷ values) read asked c =
    subst (λ (vs : List ℕ). Comes tries vs (after act_of given (given read value) values)) (append_assoc before (value ∷ []) values)
    (comes-after tries (before ++ value ∷ []) values (given read value) asked.1 (comes-by tries value before read.values read refl c.in_hand asked.0 c))

comes : (tries : ℕ) (values : List ℕ) → WereAsked act_of given (started tries) values → Comes tries values (read_after tries values)
comes tries values asked =
    comes-after tries [] values (started tries) asked
    (record { earlier = []; missed = tt; count = omega arith; loaded = refl; numbers = inl refl; in_hand = tt; some_left = λ more. absurd (more refl) })

-- ---- what a read has come to, by its tries

-- by the values of the try in hand, where a try is left
wants_by : (tries : ℕ) (values in_hand : List ℕ) (read : SeqlockRead) (word : ℕ) → IsInHand in_hand → seqlock.act_of (comes_to in_hand) ≡ Load word → IsWanted in_hand word
wants_by tries values [] read word is wants = cc
wants_by tries values (first ∷ []) read word is wants = (is, cc)
wants_by tries values (first ∷ marker ∷ []) read word is wants = (is, cc)
wants_by tries values (first ∷ marker ∷ last ∷ later) read word is wants = absurd (cc wants)

act_none : (read : SeqlockRead) (word : ℕ) → read.left ≡ 0 → act_of read ≡ Load word → ⊥
act_none read word none wants =
    let ended : act_of read ≡ End = ap seqlock.act_of (ends-failed page_lock read none) in
    cc

end_none : (read : SeqlockRead) → read.left ≡ 0 → end_of read ≡ Some (Busy read.first read.last)
end_none read none = ap (λ (p : Progress). page_seen (seqlock.end_of p)) (ends-failed page_lock read none)

not_end : (act : Act) (word : ℕ) → act ≡ Load word → act ≢ End
not_end act word wants = λ ended. cc

wants-to : (tries word : ℕ) (values : List ℕ) (read : SeqlockRead) → Comes tries values read → act_of read ≡ Load word → OneWants tries values word
wants-to tries word values read c wants =
    let some : 0 < read.left = some_left read (not_end (act_of read) word wants) in
    record {
      earlier = c.earlier;
      in_hand = read.values;
      some_left = (let were = c.count in omega arith);
      missed = c.missed;
      loaded = c.loaded;
      wanted = wants_by tries values read.values read word c.in_hand (sym (ap seqlock.act_of (progress-in_hand read read.values refl some c.in_hand)) ∙ wants);
    }

-- the read after tries that failed
abbrev failed : SeqlockRead → List Missed → SeqlockRead
failed read [] = read
failed read (missed ∷ later) = failed (failed_try read (first_count missed) (last_count missed)) later

given-missed : (read : SeqlockRead) (missed : Missed) (rest : List ℕ) → IsMissed missed → read.values ≡ []
    → after act_of given read (missed_values missed ++ rest) ≡ after act_of given (failed_try read (first_count missed) (last_count missed)) rest
given-missed read (Odd first) rest is none = ap (λ (r : SeqlockRead). after act_of given r rest) (given-odd read first none is)
given-missed read (Changed first marker last) rest is none =
    let one : given read first ≡ record read { values = first ∷ [] } = given-even read first none is.0 in
    let two : given (given read first) marker ≡ record read { values = first ∷ marker ∷ [] } = ap (λ (r : SeqlockRead). given r marker) one ∙ given-marker (record read { values = first ∷ [] }) first marker refl is.0 in
    let three : given (given (given read first) marker) last ≡ failed_try read (count_in_word first) (count_in_word last) =
    ap (λ (r : SeqlockRead). given r last) two ∙ given-other (record read { values = first ∷ marker ∷ [] }) first marker last refl is.0 is.1 in
    ap (λ (r : SeqlockRead). after act_of given r rest) three

after-failed : (read : SeqlockRead) (earlier : List Missed) (rest : List ℕ) → AreMissed earlier → read.values ≡ [] → after act_of given read (values_of_tries earlier ++ rest) ≡ after act_of given (failed read earlier) rest
after-failed read [] rest are none = refl
after-failed read (missed ∷ earlier) rest are none =
    ap (after act_of given read) (append_assoc (missed_values missed) (values_of_tries earlier) rest)
    ∙ given-missed read missed (values_of_tries earlier ++ rest) are.0 none
    ∙ after-failed (failed_try read (first_count missed) (last_count missed)) earlier rest are.1 refl

failed-left : (read : SeqlockRead) (earlier : List Missed) → (failed read earlier).left ≡ read.left - length earlier
failed-left read [] = omega arith
failed-left read (missed ∷ earlier) = let later = failed-left (failed_try read (first_count missed) (last_count missed)) earlier in omega arith

failed-values : (read : SeqlockRead) (earlier : List Missed) → read.values ≡ [] → (failed read earlier).values ≡ []
failed-values read [] none = none
failed-values read (missed ∷ earlier) none = failed-values (failed_try read (first_count missed) (last_count missed)) earlier refl

failed-more : (read : SeqlockRead) (earlier : List Missed) (final : Missed) → failed read (earlier ++ final ∷ []) ≡ failed_try (failed read earlier) (first_count final) (last_count final)
failed-more read [] final = refl
failed-more read (missed ∷ earlier) final = failed-more (failed_try read (first_count missed) (last_count missed)) earlier final

-- a try that is not done after the first so many
wants_in_hand : (read : SeqlockRead) (in_hand : List ℕ) (word : ℕ) → 0 < read.left → read.values ≡ [] → IsWanted in_hand word → act_of (after act_of given read in_hand) ≡ Load word
wants_in_hand read [] word some none wanted = ap seqlock.act_of (asks-first page_lock read some none) ∙ ap Load (sym wanted)
wants_in_hand read (first ∷ []) word some none wanted =
    let one = given-even read first none wanted.0 in
    ap act_of one ∙ ap seqlock.act_of (asks-data page_lock (record read { values = first ∷ [] }) first [] some refl (calm first wanted.0) (omega arith)) ∙ ap Load (sym wanted.1)
wants_in_hand read (first ∷ marker ∷ []) word some none wanted =
    let one = given-even read first none wanted.0 in
    let two : given (given read first) marker ≡ record read { values = first ∷ marker ∷ [] } = ap (λ (r : SeqlockRead). given r marker) one ∙ given-marker (record read { values = first ∷ [] }) first marker refl wanted.0 in
    ap act_of two ∙ ap seqlock.act_of (asks-last page_lock (record read { values = first ∷ marker ∷ [] }) first (marker ∷ []) some refl (calm first wanted.0) refl) ∙ ap Load (sym wanted.1)
wants_in_hand read (first ∷ marker ∷ last ∷ values) word some none wanted = absurd wanted

wants-from : (tries word : ℕ) (values : List ℕ) → OneWants tries values word → act_of (read_after tries values) ≡ Load word
wants-from tries word values w =
    ap (λ (vs : List ℕ). act_of (read_after tries vs)) w.loaded
    ∙ ap act_of (after-failed (started tries) w.earlier w.in_hand w.missed refl)
    ∙ wants_in_hand (failed (started tries) w.earlier) w.in_hand word
    (let left = failed-left (started tries) w.earlier in let fewer = w.some_left in omega arith)
    (failed-values (started tries) w.earlier refl) w.wanted

end-whole : (read : SeqlockRead) (first marker last : ℕ) → 0 < read.left → read.values ≡ first ∷ marker ∷ last ∷ [] → count_in_word first % 2 ≡ 0 → count_in_word last ≡ count_in_word first
    → end_of read ≡ Some (Marker marker (count_in_word first))
end-whole read first marker last some are even same =
    ap (λ (p : Progress). page_seen (seqlock.end_of p)) (progress-in_hand read (first ∷ marker ∷ last ∷ []) are some (even, same))

saw_in_hand : (read : SeqlockRead) (first marker last : ℕ) → 0 < read.left → read.values ≡ [] → count_in_word first % 2 ≡ 0 → count_in_word last ≡ count_in_word first
    → end_of (after act_of given read (first ∷ marker ∷ last ∷ [])) ≡ Some (Marker marker (count_in_word first))
saw_in_hand read first marker last some none even same =
    let one : given read first ≡ record read { values = first ∷ [] } = given-even read first none even in
    let two : given (given read first) marker ≡ record read { values = first ∷ marker ∷ [] } = ap (λ (r : SeqlockRead). given r marker) one ∙ given-marker (record read { values = first ∷ [] }) first marker refl even in
    let three : given (given (given read first) marker) last ≡ record read { values = first ∷ marker ∷ last ∷ [] } =
    ap (λ (r : SeqlockRead). given r last) two ∙ given-same (record read { values = first ∷ marker ∷ [] }) first marker last refl even same in
    ap end_of three ∙ end-whole (record read { values = first ∷ marker ∷ last ∷ [] }) first marker last some refl even same

saw-from : (tries marker sequence : ℕ) (values : List ℕ) → OneSaw tries values marker sequence → end_of (read_after tries values) ≡ Some (Marker marker sequence)
saw-from tries marker sequence values s =
    ap (λ (vs : List ℕ). end_of (read_after tries vs)) s.loaded
    ∙ ap end_of (after-failed (started tries) s.earlier (s.first_word ∷ marker ∷ s.last_word ∷ []) s.missed refl)
    ∙ saw_in_hand (failed (started tries) s.earlier) s.first_word marker s.last_word
    (let left = failed-left (started tries) s.earlier in let fewer = s.some_left in omega arith)
    (failed-values (started tries) s.earlier refl)
    (ap (λ (n : ℕ). n % 2) (sym s.first_is) ∙ s.even)
    (sym s.last_is ∙ s.first_is)
    ∙ ap (λ (n : ℕ). Some (Marker marker n)) (sym s.first_is)

busy-from : (tries first last : ℕ) (values : List ℕ) → EachMissed tries values first last → end_of (read_after tries values) ≡ Some (Busy first last)
busy-from tries first last values m =
    let all : List Missed = m.earlier ++ m.final ∷ [] in
    let none : (failed (started tries) all).left ≡ 0 = (let left = failed-left (started tries) all in let many = m.all in let len : length all ≡ length m.earlier + 1 = length-append m.earlier (m.final ∷ []) in omega arith) in
    ap (λ (vs : List ℕ). end_of (read_after tries vs)) (m.loaded ∙ sym (append-nil (values_of_tries all)))
    ∙ ap end_of (after-failed (started tries) all [] m.missed refl)
    ∙ end_none (failed (started tries) all) none
    ∙ ap (λ (r : SeqlockRead). Some (Busy r.first r.last)) (failed-more (started tries) m.earlier m.final)
    ∙ ap (λ (n : ℕ). Some (Busy n (last_count m.final))) (sym m.first_is)
    ∙ ap (λ (n : ℕ). Some (Busy first n)) (sym m.last_is)

saw_by : (tries marker sequence : ℕ) (values in_hand : List ℕ) (read : SeqlockRead) → read.values ≡ in_hand → IsInHand in_hand → 0 < read.left → Comes tries values read
    → page_seen (seqlock.end_of (comes_to in_hand)) ≡ Some (Marker marker sequence) → OneSaw tries values marker sequence
saw_by tries marker sequence values [] read is in_hand some c ended = absurd (cc ended)
saw_by tries marker sequence values (first ∷ []) read is in_hand some c ended = absurd (cc ended)
saw_by tries marker sequence values (first ∷ found ∷ []) read is in_hand some c ended = absurd (cc ended)
saw_by tries marker sequence values (first ∷ found ∷ last ∷ []) read is in_hand some c ended =
    let same_marker : found ≡ marker = cc ended in
    let same_count : sequence ≡ count_in_word first = cc ended in
    record {
      earlier = c.earlier;
      first_word = first;
      last_word = last;
      some_left = (let were = c.count in omega arith);
      missed = c.missed;
      loaded = c.loaded ∙ ap (λ (vs : List ℕ). values_of_tries c.earlier ++ vs) is ∙ ap (λ (m : ℕ). values_of_tries c.earlier ++ first ∷ m ∷ last ∷ []) same_marker;
      even = ap (λ (n : ℕ). n % 2) same_count ∙ in_hand.0;
      first_is = same_count;
      last_is = same_count ∙ sym in_hand.1;
    }
saw_by tries marker sequence values (first ∷ found ∷ last ∷ more ∷ later) read is in_hand some c ended = absurd in_hand

saw-to : (tries marker sequence : ℕ) (values : List ℕ) (read : SeqlockRead) → Comes tries values read → end_of read ≡ Some (Marker marker sequence) → OneSaw tries values marker sequence
saw-to tries marker sequence values read c ended =
    elim (cases_Bool (read.left == 0)) [
      | inl none ↦
          let busy : end_of read ≡ Some (Busy read.first read.last) = end_none read (eqb-true read.left 0 none) in
          absurd (cc)
      | inr more ↦
          let some : 0 < read.left = (let other = eqb-false read.left 0 more in omega arith) in
          saw_by tries marker sequence values read.values read refl c.in_hand some c
          (sym (ap (λ (p : Progress). page_seen (seqlock.end_of p)) (progress-in_hand read read.values refl some c.in_hand)) ∙ ended)
    ]

not_busy : (first last : ℕ) (in_hand : List ℕ) → IsInHand in_hand → page_seen (seqlock.end_of (comes_to in_hand)) ≡ Some (Busy first last) → ⊥
not_busy first last [] is ended = cc ended
not_busy first last (word ∷ []) is ended = cc ended
not_busy first last (word ∷ found ∷ []) is ended = cc ended
not_busy first last (word ∷ found ∷ last_word ∷ values) is ended = cc ended

none_in_hand : (in_hand : List ℕ) (left : ℕ) → (in_hand ≢ [] → 0 < left) → left ≡ 0 → in_hand ≡ []
none_in_hand [] left some none = refl
none_in_hand (value ∷ values) left some none = let more = some (λ e. cc e) in absurd (omega arith)

missed_by : (tries first last : ℕ) (values : List ℕ) (read : SeqlockRead) (c : Comes tries values read) → 0 < tries → read.left ≡ 0 → read.first ≡ first → read.last ≡ last → IsLast c.earlier read.first read.last → EachMissed tries values first last
missed_by tries first last values read c many none same_first same_last (inl empty) =
    let len : length c.earlier ≡ 0 = ap length empty in
    let were = c.count in
    absurd (omega arith)
missed_by tries first last values read c many none same_first same_last (inr found) =
    let front = found.0 in
    let final = found.1.0 in
    let is = found.1.1.0 in
    let len : length c.earlier ≡ length front + 1 = ap length is ∙ length-append front (final ∷ []) in
    let were = c.count in
    record {
      earlier = front;
      final = final;
      all = omega arith;
      missed = subst AreMissed is c.missed;
      loaded =
          c.loaded
          ∙ ap (λ (vs : List ℕ). values_of_tries c.earlier ++ vs) (none_in_hand read.values read.left c.some_left none)
          ∙ append-nil (values_of_tries c.earlier)
          ∙ ap values_of_tries is;
      first_is = sym same_first ∙ found.1.1.1.0;
      last_is = sym same_last ∙ found.1.1.1.1;
    }

busy-to : (tries first last : ℕ) (values : List ℕ) (read : SeqlockRead) → 0 < tries → Comes tries values read → end_of read ≡ Some (Busy first last) → EachMissed tries values first last
busy-to tries first last values read many c ended =
    elim (cases_Bool (read.left == 0)) [
      | inl test ↦
          let none : read.left ≡ 0 = eqb-true read.left 0 test in
          let busy : end_of read ≡ Some (Busy read.first read.last) = end_none read none in
          let same_first : read.first ≡ first = cc in
          let same_last : read.last ≡ last = cc in
          missed_by tries first last values read c many none same_first same_last c.numbers
      | inr more ↦
          let some : 0 < read.left = (let other = eqb-false read.left 0 more in omega arith) in
          absurd (not_busy first last read.values c.in_hand (sym (ap (λ (p : Progress). page_seen (seqlock.end_of p)) (progress-in_hand read read.values refl some c.in_hand)) ∙ ended))
    ]

pub follows_its_tries : FollowsItsTries
follows_its_tries tries values many asked =
    let read = read_after tries values in
    let c = comes tries values asked in
    record {
      wants = λ word. (wants-to tries word values read c, wants-from tries word values);
      marker = λ marker sequence. (saw-to tries marker sequence values read c, saw-from tries marker sequence values);
      busy = λ first last. (busy-to tries first last values read many c, busy-from tries first last values);
      steps = takes_few_steps page_lock tries values asked;
    }

-- ---- a page is always there

last_absent : (same : Bool) (first last : ℕ) (word : ℕ) (words rest left : List ℕ) → (if same then Read word words rest else Failed first last rest) ≡ Absent left → ⊥
last_absent true first last word words rest left is = cc is
last_absent false first last word words rest left is = cc is

data_absent : (first : ℕ) (values left : List ℕ) → seqlock.data_loads page_lock first values ≡ Absent left → ⊥
data_absent first [] left is = cc is
data_absent first (marker ∷ []) left is = cc is
data_absent first (marker ∷ last ∷ rest) left is = last_absent (count_in_word first == count_in_word last) (count_in_word first) (count_in_word last) first (marker ∷ []) rest left (sym (data_loads-all page_lock first (marker ∷ []) (last ∷ rest) refl) ∙ is)

first_absent : (odd : Bool) (first : ℕ) (values left : List ℕ) → (if odd then Failed (count_in_word first) (count_in_word first) values else seqlock.data_loads page_lock first values) ≡ Absent left → ⊥
first_absent true first values left is = cc is
first_absent false first values left is = data_absent first values left is

never_absent : (values left : List ℕ) → seqlock.attempt page_lock values ≡ Absent left → ⊥
never_absent [] left is = cc is
never_absent (first ∷ values) left is = first_absent (count_in_word first % 2 == 1) first values left is

goes_there : (at : Attempt) (later : ℕ → ℕ → List ℕ → Progress) → ((left : List ℕ) → at ≡ Absent left → ⊥) → ((first last : ℕ) (rest : List ℕ) → seqlock.end_of (later first last rest) ≢ Some Unpublished)
    → seqlock.end_of (seqlock.goes_on Asks (λ outcome rest. Ends outcome) later at) ≢ Some Unpublished
goes_there (Wants word) later there more = λ is. cc is
goes_there (Absent left) later there more = absurd (there left refl)
goes_there (Failed first last rest) later there more = more first last rest
goes_there (Read word words rest) later there more = λ is. cc is

there_by : (left first last : ℕ) (values : List ℕ) → seqlock.end_of (seqlock.read_of page_lock left first last values) ≢ Some Unpublished
there_by zero first last values = λ is. cc is
there_by (suc left) first last values = goes_there (seqlock.attempt page_lock values) (seqlock.read_of page_lock left) (never_absent values) (there_by left)

pub always_there : (read : SeqlockRead) → seqlock.read_end page_lock read ≢ Some Unpublished
always_there read = there_by read.left read.first read.last read.values
