-- A law of `segment_views` allows a step of the table.
use Rattle.std.proofs.Common.{◌≡◌, ◌≢◌, ℕ, ◌+◌, ◌-◌, ◌%◌, ⊎_elim, Bool, true, false, List, length, refl, sym, subst, arith}
use Rattle.std.specs.Prelude.{slice_index, ◌==◌, nat_lt}
use Rattle.std.proofs.lemmas.Bool.{eqb-true, eqb-false, cases_eq}
use Rattle.std.proofs.lemmas.Bool.Decides.{nat_tests}
use Rattle.atomic_table.specs.Table.{Me, keeps, Allows, Splits, Joins}
use Rattle.segment_views.specs.declared.setup.Setup.{Setup}
use Rattle.segment_views.specs.Views.{SeatView}
use Rattle.segment_views.specs.Rule.{SharedState}
use Rattle.segment_views.specs.Steps.{May, StateAfter, ViewAfter, Tells, KeepsRule, MayLoad, MayPage, same_state, clock_view, TellsClock, front_view, TellsFront, plain_view, TellsData, TellsZero, TellsPlain, page_view, TellsPage}
use Rattle.segment_views.specs.Seats.{KeepsSplit, KeepsJoin}
use Rattle.segment_views.proofs.LoadLaws.{clock_law, zero_law, front_law, data_law, page_law, marker_law, plain_law}
use Rattle.generation_word.specs.Header.{generation_in}
use Rattle.segment_layout.specs.declared.publication.Publication.{Publication}
use Rattle.segment_rule.specs.Polls.{TellsPoll, MayPoll}
use Rattle.segment_views.specs.Steps.{MayOdd, update_begun, MayFill, update_filled, MayEven, update_ended}
use Rattle.segment_views.proofs.DaemonLaws.{odd_law, fill_law, even_law}
use Rattle.segment_views.specs.Steps.{daemon_state, daemon_view, TellsDaemonPart, MayMagic, with_magic, MayHead, with_head, MayMoveOdd, move_begun, MayMoveEven, move_ended}
use Rattle.segment_views.proofs.DaemonLaws.{magic_law, head_law, move_odd_law, move_even_law}
use Rattle.segment_rule.specs.Opens.{is_header, TellsOpen, MayOpen}
use Rattle.vmclock_page.specs.Words.{count_in_word}
use Rattle.segment_views.specs.Steps.{host_state, host_view, TellsHostPart, MayRow, row_done, MayPageOdd, page_begun, MayPageFill, page_filled, MayPageEven, page_done}
use Rattle.segment_views.proofs.HostLaws.{row_law, page_odd_law, page_fill_law, page_even_law}
use Rattle.segment_rule.specs.Hosts.{TellsHost, MayHost}
use Rattle.segment_rule.specs.Ruled.{Ruled, Either, TellsLoad, MayLoadWord}

-- a word that shows nothing_seen
plain_kept : (first : Bool) (i : ℕ) → i ≢ 1 → i ≢ 11 → i ≢ 12 → KeepsRule i MayLoad same_state (plain_view first i) (TellsPlain first i)
plain_kept first i ne np nm c' a words views id v n kept at may = (plain_law first i c' a words views id v n kept at may.0 ne np nm, refl)

plain_or_marker : (first : Bool) (i : ℕ) → i ≢ 1 → i ≢ 11 → KeepsRule i MayLoad same_state (plain_view first i) (TellsPlain first i)
plain_or_marker first i ne np = ⊎_elim
    (λ (e : i ≡ 12). subst (λ (j : ℕ). KeepsRule j MayLoad same_state (plain_view first j) (TellsPlain first j)) (sym e) (marker_law first))
    (λ (nm : i ≢ 12). plain_kept first i ne np nm)
    (cases_eq i 12)

module _ {S : Type 0} (c : Setup) where
  pub loads : (i : ℕ) (may : May) (core : StateAfter) (view : ViewAfter) (tells : Tells) (slots id : ℕ) (me : Me S SeatView) → KeepsRule i may core view tells → ((n : ℕ) → may me.0 n n)
      → Allows (Ruled {S = S} c) slots id me i (λ n. n) (λ n w. (w.1 ≡ me.1) × tells me.0 n n w.0)
  loads i may core view tells slots id me law ok state ruled homes at fits =
      let found : ℕ = slice_index state.words i in
      let went = law c ruled.0 state.words state.views id me.0 found ruled.1 at (ok found) in
      (view ruled.0 me.0 found found, keeps, tt, (core ruled.0 me.0 found found, went.0), (refl, went.1))

  -- a store cannot tell what it found
  pub stores : (i n : ℕ) (may : May) (core : StateAfter) (view : ViewAfter) (tells told : Tells) (slots id : ℕ) (me : Me S SeatView) → KeepsRule i may core view tells → ((found : ℕ) → may me.0 found n)
      → ((found : ℕ) (w : SeatView) → tells me.0 found n w → told me.0 n n w)
      → Allows (Ruled {S = S} c) slots id me i (λ _. n) (λ _ w. (w.1 ≡ me.1) × told me.0 n n w.0)
  stores i n may core view tells told slots id me law ok blind state ruled homes at fits =
      let found : ℕ = slice_index state.words i in
      let went = law c ruled.0 state.words state.views id me.0 n ruled.1 at (ok found) in
      let w : SeatView = view ruled.0 me.0 found n in
      (w, keeps, tt, (core ruled.0 me.0 found n, went.0), (refl, blind found w went.1))

  pub splits : (may : SeatView → Type 0) (core : SharedState → ℕ → SharedState) (left right : SeatView → SeatView) (id : ℕ) (v : SeatView) → KeepsSplit may core left right → may v → Splits (Ruled {S = S} c) id v (left v) (right v)
  splits may core left right id v law ok state ruled at = (core ruled.0 (length state.views), law c ruled.0 state.words state.views id v ruled.1 at ok)

  pub joins : (both : SeatView → SeatView → SeatView) (gone : SeatView) (id : ℕ) (v : SeatView) (other : ℕ) (w : SeatView) → KeepsJoin both gone → Joins (Ruled {S = S} c) id v other w (both v w) gone
  joins both gone id v other w law state ruled at apart there = (ruled.0, law c ruled.0 state.words state.views id v other w ruled.1 at apart there)

  module _ (word slots id : ℕ) (g : ℕ → ℕ) (me : Me S SeatView) where
    abbrev pub Goal : (ℕ → SeatView → Type 0) → Type 0
    Goal T = Allows (Ruled {S = S} c) slots id me word g (λ n w. (w.1 ≡ me.1) × T n w.0)

    pub either_allowed : (b : Bool) (A B : ℕ → SeatView → Type 0) → (b ≡ true → Goal A) → (b ≡ false → Goal B) → Goal (λ n x. Either b (A n x) (B n x))
    either_allowed true A B left right = left refl
    either_allowed false A B left right = right refl

  module _ (word slots id : ℕ) (g : ℕ → ℕ) (me : Me S SeatView) where
    pub may_either : (b : Bool) (A B : ℕ → SeatView → Type 0) (P Q : Type 0) → (b ≡ true → P → Goal word slots id g me A) → (b ≡ false → Q → Goal word slots id g me B) → Either b P Q → Goal word slots id g me (λ n x. Either b (A n x) (B n x))
    may_either true A B P Q left right p = left refl p
    may_either false A B P Q left right q = right refl q

  pub load_allowed : (first : Bool) (word slots id : ℕ) (me : Me S SeatView) → me.0.seated ≡ true → MayLoadWord word me.0 → Allows (Ruled {S = S} c) slots id me word (λ n. n) (λ n w. (w.1 ≡ me.1) × TellsLoad first word me.0 n n w.0)
  load_allowed first word slots id me on may =
      let v = me.0 in
      let at = λ (i : ℕ) (view : ViewAfter) (tells : Tells) (law : KeepsRule i MayLoad same_state view tells) (e : (word == i) ≡ true).
      subst (λ (j : ℕ). Goal j slots id (λ n. n) me (λ n x. tells v n n x)) (sym (eqb-true word i e)) (loads i MayLoad same_state view tells slots id me law (λ n. (refl, on))) in
      let page = λ (e : (word == 11) ≡ true).
      subst (λ (j : ℕ). Goal j slots id (λ n. n) me (λ n x. TellsPage first v n n x)) (sym (eqb-true word 11 e)) (loads 11 MayPage same_state (page_view first) (TellsPage first) slots id me (page_law first) (λ n. (refl, on, may (eqb-true word 11 e)))) in
      let t10 = λ (n : ℕ) (w : SeatView). Either (nat_lt word 10) (TellsData first word v n n w) (TellsPlain first word v n n w) in
      let t0 = λ (n : ℕ) (w : SeatView). Either (word == 0) (TellsZero first v n n w) (t10 n w) in
      let t23 = λ (n : ℕ) (w : SeatView). Either (word == 23) (TellsClock first v n n w) (t0 n w) in
      let t11 = λ (n : ℕ) (w : SeatView). Either (word == 11) (TellsPage first v n n w) (t23 n w) in
      either_allowed word slots id (λ n. n) me (word == 1) (λ n w. TellsFront first v n n w) t11 (λ e. at 1 (front_view first) (TellsFront first) (front_law first) e)
      (λ ne. either_allowed word slots id (λ n. n) me (word == 11) (λ n w. TellsPage first v n n w) t23 page
      (λ np. either_allowed word slots id (λ n. n) me (word == 23) (λ n w. TellsClock first v n n w) t0 (λ e. at 23 (clock_view first) (TellsClock first) (clock_law first) e)
      (λ _. either_allowed word slots id (λ n. n) me (word == 0) (λ n w. TellsZero first v n n w) t10 (λ e. at 0 (plain_view first 0) (TellsZero first) (zero_law first) e)
      (λ nz. either_allowed word slots id (λ n. n) me (nat_lt word 10) (λ n w. TellsData first word v n n w) (λ n w. TellsPlain first word v n n w)
      (λ e.
      let not_one : word ≢ 1 = eqb-false word 1 ne in
      let not_zero : word ≢ 0 = eqb-false word 0 nz in
      loads word MayLoad same_state (plain_view first word) (TellsData first word) slots id me (data_law first word (omega arith) (grind (arith, nat_tests))) (λ n. (refl, on)))
      (λ _. loads word MayLoad same_state (plain_view first word) (TellsPlain first word) slots id me (plain_or_marker first word (eqb-false word 1 ne) (eqb-false word 11 np)) (λ n. (refl, on)))))))

  pub open_allowed : (word n slots id : ℕ) (me : Me S SeatView) → me.0.is_daemon ≡ true → MayOpen word n me.0 → Allows (Ruled {S = S} c) slots id me word (λ _. n) (λ _ w. (w.1 ≡ me.1) × TellsOpen word me.0 n n w.0)
  open_allowed word n slots id me daemon =
      let v = me.0 in
      let header = λ (w : SeatView). Either (is_header v n) (TellsDaemonPart with_head 1 v n n w) (Either (generation_in n % 2 == 1) (TellsDaemonPart move_begun 1 v n n w) (TellsDaemonPart move_ended 1 v n n w)) in
      let move = λ (w : SeatView). Either (generation_in n % 2 == 1) (TellsDaemonPart move_begun 1 v n n w) (TellsDaemonPart move_ended 1 v n n w) in
      may_either word slots id (λ _. n) me (word == 0) (λ _ w. TellsDaemonPart with_magic 0 v n n w) (λ _ w. header w) _ _
      (λ e m. subst (λ (j : ℕ). Goal j slots id (λ _. n) me (λ _ w. TellsDaemonPart with_magic 0 v n n w)) (sym (eqb-true word 0 e))
      (stores 0 n MayMagic (daemon_state with_magic) (daemon_view with_magic 0) (TellsDaemonPart with_magic 0) (TellsDaemonPart with_magic 0) slots id me magic_law (λ found. (daemon, m)) (λ found w t. record { view = t.view; is = t.is; later = t.later; point = t.point; header = t.header })))
      (λ _. may_either word slots id (λ _. n) me (is_header v n) (λ _ w. TellsDaemonPart with_head 1 v n n w) (λ _ w. move w) _ _
      (λ e m. subst (λ (j : ℕ). Goal j slots id (λ _. n) me (λ _ w. TellsDaemonPart with_head 1 v n n w)) (sym m.0)
      (stores 1 n MayHead (daemon_state with_head) (daemon_view with_head 1) (TellsDaemonPart with_head 1) (TellsDaemonPart with_head 1) slots id me head_law (λ found. (daemon, m.1, m.2, eqb-true n _ e)) (λ found w t. record { view = t.view; is = t.is; later = t.later; point = t.point; header = t.header })))
      (λ _. may_either word slots id (λ _. n) me (generation_in n % 2 == 1) (λ _ w. TellsDaemonPart move_begun 1 v n n w) (λ _ w. TellsDaemonPart move_ended 1 v n n w) _ _
      (λ e m. subst (λ (j : ℕ). Goal j slots id (λ _. n) me (λ _ w. TellsDaemonPart move_begun 1 v n n w)) (sym m.0)
      (stores 1 n MayMoveOdd (daemon_state move_begun) (daemon_view move_begun 1) (TellsDaemonPart move_begun 1) (TellsDaemonPart move_begun 1) slots id me move_odd_law (λ found. (daemon, m.1, m.2, m.3)) (λ found w t. record { view = t.view; is = t.is; later = t.later; point = t.point; header = t.header })))
      (λ _ m. subst (λ (j : ℕ). Goal j slots id (λ _. n) me (λ _ w. TellsDaemonPart move_ended 1 v n n w)) (sym m.0)
      (stores 1 n MayMoveEven (daemon_state move_ended) (daemon_view move_ended 1) (TellsDaemonPart move_ended 1) (TellsDaemonPart move_ended 1) slots id me move_even_law (λ found. (daemon, m.1, m.2)) (λ found w t. record { view = t.view; is = t.is; later = t.later; point = t.point; header = t.header })))))

  pub poll_allowed : (e : Publication) (word n slots id : ℕ) (me : Me S SeatView) → me.0.is_daemon ≡ true → MayPoll e word n me.0 → Allows (Ruled {S = S} c) slots id me word (λ _. n) (λ _ w. (w.1 ≡ me.1) × TellsPoll e word me.0 n n w.0)
  poll_allowed e word n slots id me daemon =
      let v = me.0 in
      may_either word slots id (λ _. n) me (word == 1) (λ _ w. Either (generation_in n % 2 == 1) (TellsDaemonPart (update_begun e) 1 v n n w) (TellsDaemonPart update_ended 1 v n n w)) (λ _ w. TellsDaemonPart (update_filled word) word v n n w) _ _
      (λ one m. subst (λ (j : ℕ). Goal j slots id (λ _. n) me (λ _ w. Either (generation_in n % 2 == 1) (TellsDaemonPart (update_begun e) 1 v n n w) (TellsDaemonPart update_ended 1 v n n w))) (sym (eqb-true word 1 one))
      (may_either 1 slots id (λ _. n) me (generation_in n % 2 == 1) (λ _ w. TellsDaemonPart (update_begun e) 1 v n n w) (λ _ w. TellsDaemonPart update_ended 1 v n n w) _ _
      (λ _ h. stores 1 n (MayOdd e) (daemon_state (update_begun e)) (daemon_view (update_begun e) 1) (TellsDaemonPart (update_begun e) 1) (TellsDaemonPart (update_begun e) 1) slots id me (odd_law e) (λ found. (daemon, h.0, h.1, h.2, h.3, h.4)) (λ found w t. record { view = t.view; is = t.is; later = t.later; point = t.point; header = t.header }))
      (λ _ h. stores 1 n MayEven (daemon_state update_ended) (daemon_view update_ended 1) (TellsDaemonPart update_ended 1) (TellsDaemonPart update_ended 1) slots id me even_law (λ found. (daemon, h.0, h.1)) (λ found w t. record { view = t.view; is = t.is; later = t.later; point = t.point; header = t.header }))
      m))
      (λ _ m. stores word n (MayFill word) (daemon_state (update_filled word)) (daemon_view (update_filled word) word) (TellsDaemonPart (update_filled word) word) (TellsDaemonPart (update_filled word) word) slots id me (fill_law word m.0 m.1) (λ found. (daemon, m.2, m.3, m.4)) (λ found w t. record { view = t.view; is = t.is; later = t.later; point = t.point; header = t.header }))

  pub host_allowed : (p : List ℕ) (word n slots id : ℕ) (me : Me S SeatView) → me.0.is_host ≡ true → MayHost word n me.0 → Allows (Ruled {S = S} c) slots id me word (λ _. n) (λ _ w. (w.1 ≡ me.1) × TellsHost p word me.0 n n w.0)
  host_allowed p word n slots id me host =
      let v = me.0 in
      let page = λ (w : SeatView). Either (count_in_word n % 2 == 1) (TellsHostPart (page_begun p) v n n w) (TellsHostPart page_done v n n w) in
      may_either word slots id (λ _. n) me (word == 23) (λ _ w. TellsHostPart row_done v n n w) (λ _ w. Either (word == 11) (page w) (TellsHostPart (page_filled (word - 10)) v n n w)) _ _
      (λ e m. subst (λ (j : ℕ). Goal j slots id (λ _. n) me (λ _ w. TellsHostPart row_done v n n w)) (sym (eqb-true word 23 e))
      (stores 23 n MayRow (host_state row_done) (host_view row_done) (TellsHostPart row_done) (TellsHostPart row_done) slots id me row_law (λ found. (host, m.0, m.1)) (λ found w t. t)))
      (λ _. may_either word slots id (λ _. n) me (word == 11) (λ _ w. page w) (λ _ w. TellsHostPart (page_filled (word - 10)) v n n w) _ _
      (λ e m. subst (λ (j : ℕ). Goal j slots id (λ _. n) me (λ _ w. page w)) (sym (eqb-true word 11 e))
      (may_either 11 slots id (λ _. n) me (count_in_word n % 2 == 1) (λ _ w. TellsHostPart (page_begun p) v n n w) (λ _ w. TellsHostPart page_done v n n w) _ _
      (λ _ h. stores 11 n MayPageOdd (host_state (page_begun p)) (host_view (page_begun p)) (TellsHostPart (page_begun p)) (TellsHostPart (page_begun p)) slots id me (page_odd_law p) (λ found. (host, h.0, h.1, h.2)) (λ found w t. t))
      (λ _ h. stores 11 n MayPageEven (host_state page_done) (host_view page_done) (TellsHostPart page_done) (TellsHostPart page_done) slots id me page_even_law (λ found. (host, h.0, h.1, h.2, h.3)) (λ found w t. t))
      m))
      (λ _ m.
      let low = m.0 in
      let high = m.1 in
      let back : word - 10 + 10 ≡ word = omega (arith, low) in
      subst (λ (j : ℕ). Goal j slots id (λ _. n) me (λ _ w. TellsHostPart (page_filled (word - 10)) v n n w)) back
      (stores (word - 10 + 10) n (MayPageFill (word - 10)) (host_state (page_filled (word - 10))) (host_view (page_filled (word - 10))) (TellsHostPart (page_filled (word - 10))) (TellsHostPart (page_filled (word - 10))) slots id me
      (page_fill_law (word - 10) (omega (arith, low)) (omega (arith, low, high))) (λ found. (host, m.2, m.3, m.4)) (λ found w t. t))))
