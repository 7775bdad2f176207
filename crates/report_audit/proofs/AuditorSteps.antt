-- What an auditor's steps rest on: equal parts give equal wholes.
use Rattle.std.proofs.Common.{◌≡◌, ℕ, zero, suc, Bool, true, false, List, [], ◌∷◌, ◌++◌, drop, Option, Some, None, Result, Ok, Err, arith, refl, sym, ap, subst, ◌∙◌}
use Rattle.std.specs.Prelude.{◌==◌, ◌&&◌, if◌then◌else◌, slice_get, IfOk}
use Rattle.std.proofs.lemmas.Option.{slice_get_past}
use Rattle.clock_gate.specs.declared.trace.Trace.{Trace}
use Rattle.generation_word.specs.declared.layout.Layout.{Layout}
use Rattle.segment_layout.specs.History.{start_seen}
use Rattle.segment_layout.specs.declared.start.Start.{Start}
use Rattle.status_machine.specs.declared.daemon.Daemon.{Daemon}
use Rattle.status_machine.specs.Incarnation.{Incarnation}
use Rattle.status_machine.specs.Step.{ShowsPast}
use Rattle.lawful_report.specs.declared.entry.Entry.{Entry}
use Rattle.lawful_report.specs.declared.call.Call.{Call}
use Rattle.lawful_report.specs.declared.seen.Seen.{Seen}
use Rattle.lawful_report.specs.Calls.{seen_first}
use Rattle.segment_layout.specs.Image.{is_old_header}
use Rattle.lawful_report.specs.Course.{Life, keeps}
use Rattle.lawful_report.specs.Lawful.{Moving, Polling, seen_before}
use Rattle.report_audit.specs.Auditor.{ShowsLife}
use Rattle.lawful_report.specs.Points.{segment_at}
use Rattle.report_audit.specs.NextLine.{ShowsDue}
use Rattle.report_audit.specs.declared.due.Due.{Due as Kind}
use Rattle.report_audit.specs.declared.due.Due.TheVariants as dues
use Rattle.report_audit.specs.declared.known.Known.{Known}

pub none_of : {X : Type 0} (o : Option X) → ((x : X) → o ≡ Some x → ⊥) → o ≡ None
none_of None never = refl
none_of (Some x) never = absurd (never x refl)

pub found_alike : (layout : Layout) (p q : ℕ) (a b : Entry) → p ≡ q → a ≡ b → start_seen layout (segment_at p) a.rec ≡ start_seen layout (segment_at q) b.rec
found_alike layout p q a b points entries = rw (points, entries) refl

abbrev pub incarnation : Start → ℕ → Bool → ℕ → Incarnation
incarnation start drift support base = record { start = start; drift = drift; support = support; base = base }

pub resumed : (s t : Start) (drift : ℕ) (a b : Bool) (m n : ℕ) (daemon : Daemon) → s ≡ t → a ≡ b → m ≡ n → ShowsPast (incarnation s drift a m) [] daemon → ShowsPast (incarnation t drift b n) [] daemon
resumed s t drift a b m n daemon starts supports bases shows =
    subst (λ (k : ℕ). ShowsPast (incarnation t drift b k) [] daemon) bases (subst (λ (c : Bool). ShowsPast (incarnation t drift c m) [] daemon) supports (subst (λ (u : Start). ShowsPast (incarnation u drift a m) [] daemon) starts shows))

pub move_alike : (layout : Layout) (word p q : ℕ) (s t : Start) → p ≡ q → s ≡ t → ((p == 0) && (is_old_header layout word && keeps s)) ≡ ((q == 0) && (is_old_header layout word && keeps t))
move_alike layout word p q s t polls starts = rw (polls, starts) refl

due_moved : (known : Known) (c : Bool) → ShowsDue known (if c then Moving else Polling) (if c then dues.Moving else dues.Polling)
due_moved known true = tt
due_moved known false = tt

pub due_moving : (known : Known) (a b : Bool) (kind : Kind) → kind ≡ (if a then dues.Moving else dues.Polling) → a ≡ b → ShowsDue known (if b then Moving else Polling) kind
due_moving known a b kind is same = subst (λ (k : Kind). ShowsDue known (if b then Moving else Polling) k) (sym is) (subst (λ (c : Bool). ShowsDue known (if c then Moving else Polling) (if a then dues.Moving else dues.Polling)) same (due_moved known a))

pub pushed_entries : (es fs gs : List Entry) (e f : Entry) → es ≡ fs → e ≡ f → gs ≡ fs ++ f ∷ [] → es ++ e ∷ [] ≡ gs
pushed_entries es fs gs e f lists ones is = rw (lists, ones) (sym is)

-- the incarnation that a daemon at work shows
pub record LifeThere (life : Option Life) (daemon : Daemon) : Type 0 where
  pub life_at : Life
  pub is : life ≡ Some life_at
  pub past : ShowsPast life_at.from life_at.past daemon

pub life_there : (life : Option Life) (held : Option Daemon) (daemon : Daemon) → held ≡ Some daemon → ShowsLife life held → LifeThere life daemon
life_there None held daemon is shows = absurd (subst (ShowsLife None) is shows)
life_there (Some life) held daemon is shows = record { life_at = life; is = refl; past = subst (ShowsLife (Some life)) is shows }

-- the calls from a place on
pub dropped : (calls : List Call) (place : ℕ) (call : Call) → slice_get calls place ≡ Some call → drop place calls ≡ call ∷ drop (suc place) calls
dropped [] place call is = absurd (cc (sym (slice_get_past [] place (omega arith)) ∙ is))
dropped (one ∷ calls) zero call is = let same : one ≡ call = cc is in ap (λ (c : Call). c ∷ calls) same
dropped (one ∷ calls) (suc place) call is = dropped calls place call is

pub dropped_past : (calls : List Call) (place : ℕ) → slice_get calls place ≡ None → drop place calls ≡ []
dropped_past [] zero is = refl
dropped_past [] (suc place) is = refl
dropped_past (one ∷ calls) zero is = absurd (cc is)
dropped_past (one ∷ calls) (suc place) is = dropped_past calls place is

pub first_alike : (trace : Trace) (first seen : Seen) (call : Call) → seen_first trace ≡ first → (if call.number == 1 then first else seen) ≡ seen_before trace seen call
first_alike trace first seen call is = rw (sym is) refl

pub ok_map : {X E : Type 0} (P Q : X → Type 0) (result : Result X E) → ((x : X) → P x → Q x) → IfOk result P → IfOk result Q
ok_map P Q (Ok x) imp is = imp x is
ok_map P Q (Err e) imp is = tt
