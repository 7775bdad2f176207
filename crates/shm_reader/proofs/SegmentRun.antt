-- What a read of the segment saw is told by its steps, try by try.
use Rattle.std.proofs.Common.{◌≡◌, ℕ, List, [], ◌∷◌, refl, ap, sym, ◌∙◌, subst, Option, Some, None}
use Rattle.std.specs.Option.{option_map}
use Rattle.clock_gate.specs.Acts.{Touch, Wanted, replayed}
use Rattle.seqlock.specs.Tries.{SeqlockRead, Outcome, Unpublished, AllFailed, Found, started, read_end}
use Rattle.seqlock.specs.TriedRun.{Did, CameTo}
use Rattle.seqlock.proofs.Tries as laws
use Rattle.seqlock.proofs.TriedRun as runs
use Rattle.shm_reader.specs.declared.seen.Seen.{Seen}
use Rattle.shm_reader.specs.declared.seen.Seen.TheVariants.{Whole, Busy, NotInitialized}
use Rattle.shm_reader.specs.SegmentTries.{segment_lock, record_in, seen_of, act_of, given}
use Rattle.shm_reader.specs.SegmentRun.{Saw, EndsWith}

-- steps leave the number of tries
tries_kept : (read : SeqlockRead) (touches : List Touch) → (replayed act_of given read touches).tries ≡ read.tries
tries_kept read [] = refl
tries_kept read (touch ∷ touches) = tries_kept (given read touch.value) touches ∙ laws.given_tries segment_lock read touch.value

saw_of : (tries : ℕ) (touches : List Touch) (outcome : Outcome) → Did segment_lock tries touches outcome → Saw tries touches (seen_of tries outcome)
saw_of tries touches Unpublished did = did
saw_of tries touches (AllFailed first last) did = (refl, did)
saw_of tries touches (Found first words) did = record { first = first; words = words; finds = did; generation_is = refl; rec_is = refl }

some_seen : (seen other : Seen) → Some other ≡ Some seen → other ≡ seen
some_seen seen other same = cc same

none_seen : (seen : Seen) → None ≡ Some seen → ⊥
none_seen seen same = cc same

saw_by : (tries : ℕ) (touches : List Touch) (seen : Seen) (end : Option Outcome) → read_end segment_lock (replayed act_of given (started tries) touches) ≡ end → Wanted act_of given (started tries) touches → option_map (seen_of tries) end ≡ Some seen
    → Saw tries touches seen
saw_by tries touches seen None is wanted ends = absurd (none_seen seen ends)
saw_by tries touches seen (Some outcome) is wanted ends = subst (Saw tries touches) (some_seen seen (seen_of tries outcome) ends) (saw_of tries touches outcome (runs.did segment_lock tries touches outcome wanted is))

pub saw : (tries : ℕ) (touches : List Touch) (seen : Seen) → EndsWith tries touches seen → Saw tries touches seen
saw tries touches seen ended =
    let read = replayed act_of given (started tries) touches in
    saw_by tries touches seen (read_end segment_lock read) refl ended.0
    (ap (λ (n : ℕ). option_map (seen_of n) (read_end segment_lock read)) (sym (tries_kept (started tries) touches)) ∙ ended.1)

ends_with : (tries : ℕ) (touches : List Touch) (outcome : Outcome) (seen : Seen) → CameTo segment_lock tries touches outcome → seen_of tries outcome ≡ seen → EndsWith tries touches seen
ends_with tries touches outcome seen came is =
    let read = replayed act_of given (started tries) touches in
    (came.0, ap (option_map (seen_of read.tries)) came.1 ∙ ap (λ (n : ℕ). Some (seen_of n outcome)) (tries_kept (started tries) touches) ∙ ap (λ (s : Seen). Some s) is)

pub saw_so : (tries : ℕ) (touches : List Touch) (seen : Seen) → Saw tries touches seen → EndsWith tries touches seen
saw_so tries touches (Whole generation rec) saw_ =
    ends_with tries touches (Found saw_.first saw_.words) (Whole generation rec) (runs.did_so segment_lock tries touches (Found saw_.first saw_.words) saw_.finds)
    (ap (λ (g : ℕ). Whole g (record_in saw_.words)) (sym saw_.generation_is) ∙ ap (Whole generation) (sym saw_.rec_is))
saw_so tries touches (Busy so_many first last) saw_ =
    ends_with tries touches (AllFailed first last) (Busy so_many first last) (runs.did_so segment_lock tries touches (AllFailed first last) saw_.1) (ap (λ (n : ℕ). Busy n first last) (sym saw_.0))
saw_so tries touches NotInitialized saw_ = ends_with tries touches Unpublished NotInitialized (runs.did_so segment_lock tries touches Unpublished saw_) refl
