use Rattle.std.proofs.Common.{◌≡◌, ◌∙◌, refl, sym, subst, length, List, ℕ, arith, rules}
use Rattle.std.proofs.lemmas.List.{take_all}
use Rattle.candm_codec.specs.Reply.{IsTrackingReply}
use Rattle.candm_codec.specs.Text.{reply_text}
use Rattle.candm_codec.proofs.ReplyLaws.{Fits, reply_text-stands, reply_of-stands}
use Rattle.candm_codec.proofs.writing.write_reply.Goals as goal

pub returns-clause-text : goal.returns-clause-text
unfolding reply_text
returns-clause-text c =
    let long : length c.put_packed-3.new.out ≡ 104 = omega arith in
    sym (take_all 104 c.put_packed-3.new.out (omega arith))
    ∙ c.put_packed-3.ensures.text
    ∙ rw (c.put_packed-2.ensures.text, c.put_packed.ensures.text, c.put_time.ensures.text, c.put_source.ensures.text)
    (rw c.put_reply_header.ensures.text refl)

pub returns-clause-stands : goal.returns-clause-stands
returns-clause-stands c =
    let fits : Fits c.args.t.now = search rules in
    subst (λ (bytes : List ℕ). IsTrackingReply bytes c.args.t.now) (sym (returns-clause-text c)) (reply_text-stands c.args.t.now fits)

pub returns-clause-back : goal.returns-clause-back
returns-clause-back c = reply_of-stands _ c.args.t.now (returns-clause-stands c)
