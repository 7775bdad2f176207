use Rattle.std.proofs.Common.{◌≡◌, ◌≢◌, ◌<◌, ◌+◌, ◌++◌, [], ◌∷◌, take, slice_set, subst, sym, ap, ◌∙◌, arith}
use Rattle.clock_gate.specs.declared.act.Act.TheVariants.{End}
use Rattle.writer_reopen.specs.Opening.{OpenerState, opening_act, opening_given, opening_left, IsAdmitted}
use Rattle.writer_reopen.proofs.OpeningLaws.{comes_nearer}
use Rattle.writer_reopen.proofs.Openings.{room, given-one_more, admitted-one_more}
use Rattle.writer_reopen.proofs.opener.Opener.give.Goals as goal

has_room : (c : goal.After-self-1) → c.self.inside.given < 12
has_room c =
    room c.self.inside.layout c.self.inside.values c.self.inside.given c.self.told c.self.invariant.0
    (subst (λ (s : OpenerState). opening_act s ≢ End) (sym c.self.view_is) c.requires.asked)

pub invariant_of-self : goal.invariant_of-self
invariant_of-self c =
    let below = has_room c in
    let told = c.self.told in (
      omega arith,
      admitted-one_more c.self.inside.layout c.self.inside.values c.self.inside.given c.from.result c.args.value (omega arith) c.from.ensures
          (subst (λ (s : OpenerState). IsAdmitted s.layout (s.values ++ c.args.value ∷ [])) (sym c.self.view_is) c.requires.admitted),
    )

has_given : (c : goal.After-self-1) → record { layout = c.self.inside.layout; values = take (c.self.inside.given + 1) (slice_set c.self.inside.values c.from.result c.args.value) } ≡ opening_given c.args.self.now c.args.value
has_given c =
    let below = has_room c in
    let told = c.self.told in
    given-one_more c.self.inside.layout c.self.inside.values c.self.inside.given c.from.result c.args.value (omega arith) c.from.ensures
    ∙ ap (λ (s : OpenerState). opening_given s c.args.value) c.self.view_is

pub returns : goal.returns
returns c =
    record {
      given = has_given c;
      nearer = subst (λ (s : OpenerState). opening_left s < opening_left c.args.self.now) (sym (has_given c)) (comes_nearer c.args.self.now c.args.value c.requires.asked);
    }
