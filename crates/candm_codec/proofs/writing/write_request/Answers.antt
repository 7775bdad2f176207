use Rattle.std.proofs.Common.{sym, subst, List, ℕ, rules}
use Rattle.candm_codec.specs.Request.{IsTrackingRequest}
use Rattle.candm_codec.specs.Text.{request_text}
use Rattle.candm_codec.specs.declared.request.Request.{Request}
use Rattle.candm_codec.proofs.RequestLaws.{request_text-stands, request_of-stands}
use Rattle.candm_codec.proofs.writing.write_request.Goals as goal

pub returns-clause-text : goal.returns-clause-text
unfolding request_text
returns-clause-text c = search rules

pub returns-clause-stands : goal.returns-clause-stands
returns-clause-stands c =
    let request : Request = record { sequence = c.args.sequence; attempt = c.args.attempt } in
    let fits = c.request_header.ensures.fits in
    subst (λ (bytes : List ℕ). IsTrackingRequest bytes request) (sym (returns-clause-text c))
    (request_text-stands request fits.0 fits.1)

pub returns-clause-back : goal.returns-clause-back
returns-clause-back c = request_of-stands _ _ (returns-clause-stands c)
