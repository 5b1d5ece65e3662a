use Rattle.std.proofs.Common.{◌≡◌, ◌++◌, ◌∷◌, [], List, true, false, is_some, refl, sym, ap, subst, ◌∙◌, rules, arith}
use Rattle.std.proofs.lemmas.Grind.{common_steps}
use Rattle.site_core.specs.State.{State}
use Rattle.site_shadow.specs.Stopping.{noted}
use Rattle.site_shadow.specs.Following.{FollowsAfter}
use Rattle.site_shadow.proofs.Keeping.{FollowsAfter-none}
use Rattle.site_shadow.proofs.Replies.{AreReplies-length}
use Rattle.site_shadow.proofs.OnlyDatagram.{reply-long, put_back, Passed-only}
use Rattle.site_shadow.proofs.shadow.Shadow.pass_only.Goals as goal

pub returns-then-is_none-clause-passed : goal.returns-then-is_none-clause-passed
returns-then-is_none-clause-passed g c =
    let middle_is : c.note-2.new.self ≡ c.take-torn.new.self.state ∷ [] =
    c.note-2.ensures ∙ ap (λ (m : List State). m ++ c.now.result ∷ []) c.requires.empty ∙ ap (λ (s : State). s ∷ []) c.now.ensures in
    Passed-only c.args.self.now c.args.slave c.args.frame.now c.take-torn.new.frame false c.note-2.new.self c.take-torn.new.frame c.take-torn.new.self
    c.requires.owned c.requires.only.one c.take-torn.ensures.takes middle_is (λ going. refl) (λ torn. absurd cc)

pub answer-requires-clause-inside : goal.answer-requires-clause-inside
answer-requires-clause-inside g c =
    omega (arith, AreReplies-length c.args.frame.now c.take-torn.new.frame c.take-torn.ensures.replies, c.requires.only.one)

pub answer-requires-clause-equal : goal.answer-requires-clause-equal
answer-requires-clause-equal g c =
    reply-long c.args.frame.now c.take-torn.new.frame c.args.only.now.header c.args.only.now.content c.requires.only c.take-torn.ensures.replies

pub returns-clause-passed : goal.returns-clause-passed
returns-clause-passed g c =
    let middle_is : c.note-2.new.self ≡ c.take-torn.new.self.state ∷ [] =
    c.note-2.ensures ∙ ap (λ (m : List State). m ++ c.now.result ∷ []) c.requires.empty ∙ ap (λ (s : State). s ∷ []) c.now.ensures in
    let stops : is_some c.take-torn.result ≡ true = first_of ((cc), search rules, grind (arith, common_steps)) in
    Passed-only c.args.self.now c.args.slave c.args.frame.now c.take-torn.new.frame (is_some c.take-torn.result) c.note-2.new.self c.answer.new.self c.take-torn.new.self
    c.requires.owned c.requires.only.one c.take-torn.ensures.takes middle_is (λ going. absurd (let e : true ≡ false = sym stops ∙ going in cc))
    (λ torn. put_back c.args.self.now c.args.slave c.args.frame.now c.take-torn.new.frame c.answer.new.self c.args.only.now.header c.args.only.now.content c.take-torn.new.self
    c.requires.only c.take-torn.ensures.takes c.answer.ensures)

pub returns-then-is_none-clause-follows : goal.returns-then-is_none-clause-follows
returns-then-is_none-clause-follows g c = λ running followed.
    let going : is_some c.take-torn.result ≡ false = first_of ((cc), search rules, grind (arith, common_steps)) in
    let middle_is : c.note-2.new.self ≡ c.take-torn.new.self.state ∷ [] =
    c.note-2.ensures ∙ ap (λ (m : List State). m ++ c.now.result ∷ []) c.requires.empty ∙ ap (λ (s : State). s ∷ []) c.now.ensures in
    subst (λ (m : List State). g.D.Device.follows c.take-torn.new.device (noted c.args.self.now m c.take-torn.new.self.state)) (sym middle_is)
    (FollowsAfter-none g.D.Device.follows c.take-torn.new.device c.take-torn.result
    (noted c.args.self.now ([] ++ c.take-torn.new.self.state ∷ []) c.take-torn.new.self.state) going
    (c.take-torn.ensures.follows c.args.self.now [] running refl followed))

pub returns-clause-follows : goal.returns-clause-follows
returns-clause-follows g c = λ running followed.
    let middle_is : c.note-2.new.self ≡ c.take-torn.new.self.state ∷ [] =
    c.note-2.ensures ∙ ap (λ (m : List State). m ++ c.now.result ∷ []) c.requires.empty ∙ ap (λ (s : State). s ∷ []) c.now.ensures in
    subst (λ (m : List State). FollowsAfter g.D.Device.follows c.take-torn.new.device c.take-torn.result (noted c.args.self.now m c.take-torn.new.self.state)) (sym middle_is)
    (c.take-torn.ensures.follows c.args.self.now [] running refl followed)
