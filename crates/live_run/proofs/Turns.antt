-- The turns of clients, one after another.
use Rattle.std.proofs.Common.{◌≡◌, ℕ, ◌+◌, ◌<◌, ◌≤◌, Bool, true, false, List, [], ◌∷◌, ◌++◌, length, slice_index_or, slice_set, vec_len, inl, inr, refl, sym, ◌∙◌, ap, subst, arith}
use Rattle.std.specs.Prelude.{All}
use Rattle.std.proofs.lemmas.Bool.{cases_eq}
use Rattle.std.proofs.lemmas.List.{get_or-set_same, get_or-set_other}
use Rattle.clock_gate.specs.declared.clock_row.ClockRow.{ClockRow}
use Rattle.interval_now.specs.declared.answers.Answer.{Answer}
use Rattle.segment_views.specs.Views.{SeatView}
use Rattle.segment_views.specs.Steps.{calls_of}
use Rattle.segment_rule.specs.Calls.{ClientState, Nows}
use Rattle.segment_rule.specs.Ruled.{TableView}
use Rattle.live_report.proofs.Chains.{client_more}
use Rattle.live_run.specs.declared.clients.Client.{Client}
use Rattle.live_run.specs.Work.{CanTurn, Stands, TurnedFrom, Worked}

-- ---- one client

not_both : {P : Type 0} (b : Bool) → b ≡ true → b ≡ false → P
not_both b yes_is no_is = absurd (cc e)
  where
    e : true ≡ false
    e = sym yes_is ∙ no_is

-- where the first call of a client begins
pub stands_first : (clock : List ClockRow) (first : SeatView) (s : ClientState) → s.view ≡ first → s.in_hand ≡ false → Stands clock [] [] first s
stands_first clock first s at rest =
    record { last = first; calls = refl; rests = λ e. at; fresh = λ e f. not_both s.in_hand e rest; begun = λ e f. not_both s.in_hand e rest }

-- what a step of a call in hand leaves
pub record HasStepped (s t : ClientState) : Type 0 where
  pub setup : t.view.setup ≡ s.view.setup
  pub first : s.begun ≡ false → t.view.calls ≡ calls_of s.view
  pub later : s.begun ≡ true → t.view.calls ≡ s.view.calls
  pub before_first : s.begun ≡ false → t.view.before ≡ s.view.seen
  pub before_later : s.begun ≡ true → t.view.before ≡ s.view.before

follows : (clock : List ClockRow) (tries : List ℕ) (answers : List Answer) (first : SeatView) (s t : ClientState) (b : Bool) → s.begun ≡ b → s.in_hand ≡ true → HasStepped s t → (st : Stands clock tries answers first s)
    → (t.view.setup ≡ st.last.setup) × (t.view.calls ≡ calls_of st.last) × (t.view.before ≡ st.last.seen)
follows clock tries answers first s t false is hand step st =
    let at : s.view ≡ st.last = st.fresh hand is in
    (step.setup ∙ ap (λ (v : SeatView). v.setup) at, step.first is ∙ ap calls_of at, step.before_first is ∙ ap (λ (v : SeatView). v.seen) at)
follows clock tries answers first s t true is hand step st =
    let at = st.begun hand is in
    (step.setup ∙ at.0, step.later is ∙ at.1, step.before_later is ∙ at.2)

-- or has ended
pub stands_ended : (clock : List ClockRow) (calls : List ℕ) (answers : List Answer) (tries : ℕ) (answer : Answer) (first : SeatView) (s t : ClientState) → s.in_hand ≡ true → t.in_hand ≡ false → HasStepped s t
    → Nows clock tries answer t.view → Stands clock calls answers first s → Stands clock (calls ++ tries ∷ []) (answers ++ answer ∷ []) first t
stands_ended clock calls answers tries answer first s t hand off step nows st =
    let at = follows clock calls answers first s t s.begun refl hand step st in
    record {
      last = t.view;
      calls = client_more clock calls first answers st.last tries answer t.view st.calls (record { setup = at.0; calls = at.1; before = at.2; nows = nows });
      rests = λ e. refl;
      fresh = λ e f. not_both t.in_hand e off;
      begun = λ e f. not_both t.in_hand e off;
    }

-- or was made as a whole
pub stands_called : (clock : List ClockRow) (calls : List ℕ) (answers : List Answer) (tries : ℕ) (answer : Answer) (first : SeatView) (s t : ClientState) → s.in_hand ≡ false → t.in_hand ≡ false
    → t.view.setup ≡ s.view.setup → t.view.calls ≡ calls_of s.view → t.view.before ≡ s.view.seen
    → Nows clock tries answer t.view → Stands clock calls answers first s → Stands clock (calls ++ tries ∷ []) (answers ++ answer ∷ []) first t
stands_called clock calls answers tries answer first s t rest off setup added before nows st =
    let at : s.view ≡ st.last = st.rests rest in
    record {
      last = t.view;
      calls = client_more clock calls first answers st.last tries answer t.view st.calls
          (record { setup = setup ∙ ap (λ (v : SeatView). v.setup) at; calls = added ∙ ap calls_of at; before = before ∙ ap (λ (v : SeatView). v.seen) at; nows = nows });
      rests = λ e. refl;
      fresh = λ e f. not_both t.in_hand e off;
      begun = λ e f. not_both t.in_hand e off;
    }

-- ---- many clients

-- the clients before this place have had turns, and the others are as they were
abbrev pub Turned : List ClockRow → ℕ → List Client → List Client → Type 0
Turned clock n old now =
    (k : ℕ) (d : Client) → k < length old
    → (k < n → TurnedFrom clock (slice_index_or old k d) (slice_index_or now k d)) × (n ≤ k → slice_index_or now k d ≡ slice_index_or old k d)

-- the clients before this place have no call left
abbrev pub Idle : ℕ → List Client → Type 0
Idle n now = (k : ℕ) (d : Client) → k < n → vec_len (slice_index_or now k d).answers ≡ vec_len (slice_index_or now k d).calls

pub turned_self : (clock : List ClockRow) (c : Client) → TurnedFrom clock c c
turned_self clock c = record { number = refl; table = refl; calls = refl; stands = λ first is. is }

pub turned_again : (clock : List ClockRow) (b c d : Client) → TurnedFrom clock b c → TurnedFrom clock c d → TurnedFrom clock b d
turned_again clock b c d g h =
    record { number = h.number ∙ g.number; table = h.table ∙ g.table; calls = h.calls ∙ g.calls; stands = λ first is. h.stands first (g.stands first is) }

pub turned_none : (clock : List ClockRow) (n : ℕ) (old : List Client) → Turned clock n old old
turned_none clock n old k d here = ((λ _. turned_self clock (slice_index_or old k d)), λ _. refl)

-- one client more has had its turn
pub turned_more : (clock : List ClockRow) (place : ℕ) (old now : List Client) (c : Client) → length now ≡ length old → place < length old → Turned clock place old now
    → ((d : Client) → TurnedFrom clock (slice_index_or now place d) c) → Turned clock (place + 1) old (slice_set now place c)
turned_more clock place old now c same here t turn k d within = elim (cases_eq k place) [
  | inl is ↦ (
    (λ _. subst (λ (q : ℕ). TurnedFrom clock (slice_index_or old q d) (slice_index_or (slice_set now place c) q d)) (sym is)
        (subst (λ (x : Client × Client). TurnedFrom clock x.0 x.1) (λ i. ((t place d here).1 (omega arith) i, sym (get_or-set_same now place c d (omega arith)) i)) (turn d))),
    (λ past. absurd (omega arith)),
  )
  | inr other ↦ (
    (λ before. subst (TurnedFrom clock (slice_index_or old k d)) (sym (get_or-set_other now place k c d other)) ((t k d within).0 (omega arith))),
    (λ past. get_or-set_other now place k c d other ∙ (t k d within).1 (omega arith)),
  )
]

pub idle_more : (place : ℕ) (now : List Client) (c : Client) → place < length now → Idle place now → vec_len c.answers ≡ vec_len c.calls → Idle (place + 1) (slice_set now place c)
idle_more place now c here idle done k d before = elim (cases_eq k place) [
  | inl is ↦ subst (λ (q : ℕ). vec_len (slice_index_or (slice_set now place c) q d).answers ≡ vec_len (slice_index_or (slice_set now place c) q d).calls) (sym is)
      (subst (λ (x : Client). vec_len x.answers ≡ vec_len x.calls) (sym (get_or-set_same now place c d here)) done)
  | inr other ↦ subst (λ (x : Client). vec_len x.answers ≡ vec_len x.calls) (sym (get_or-set_other now place k c d other)) (idle k d (omega arith))
]

-- turns of all, and then one more turn of each
pub turned_on : (clock : List ClockRow) (old mid new : List Client) → Turned clock (length old) old mid
    → ((k : ℕ) (d : Client) → k < length mid → TurnedFrom clock (slice_index_or mid k d) (slice_index_or new k d)) → length mid ≡ length old → Turned clock (length old) old new
turned_on clock old mid new t g same k d here =
    ((λ _. turned_again clock _ _ _ ((t k d here).0 here) (g k d (omega arith))), λ there. absurd (omega arith))

rests : (table : TableView) (clock : List ClockRow) (c : Client) → CanTurn table clock c → vec_len c.answers ≡ vec_len c.calls → (b : Bool) → c.seat.in_hand ≡ b → c.seat.in_hand ≡ false
rests table clock c can done true is = let left = can.hand is in absurd (omega arith)
rests table clock c can done false is = is

-- after the last turns of all
pub turned_done : (table : TableView) (clock : List ClockRow) (old now : List Client) → Turned clock (length old) old now → All (CanTurn table clock) now
    → ((k : ℕ) (d : Client) → k < length now → vec_len (slice_index_or now k d).answers ≡ vec_len (slice_index_or now k d).calls) → length now ≡ length old
    → (k : ℕ) (d : Client) → k < length old → Worked clock (slice_index_or old k d) (slice_index_or now k d)
turned_done table clock old now t can none_left same k d here =
    let there : k < length now = omega arith in
    record {
      turned = (t k d here).0 here;
      done = none_left k d there;
      hand = rests table clock (slice_index_or now k d) (can k d there) (none_left k d there) (slice_index_or now k d).seat.in_hand refl;
    }
