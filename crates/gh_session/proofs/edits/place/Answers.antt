use Rattle.std.proofs.Common.{◌∙◌, sym, ap, Bor, position}
use Rattle.std.specs.Str.{bytes_eq}
use Rattle.gh_session.specs.declared.edits.Edit.{Edit}
use Rattle.gh_session.proofs.Placings.{placed_there, placed_last}
use Rattle.gh_session.proofs.edits.place.Goals as goal

pub returns-in-Some : goal.returns-in-Some
returns-in-Some c =
    placed_there c.args.edit c.args.pieces.now.items c.in-Some.at
    (ap (λ n. position (λ (q : Bor Edit). bytes_eq q.now.name n) c.args.pieces.now.items) (sym c.bytes.ensures.text)
    ∙ ap (position (λ (q : Bor Edit). bytes_eq q.now.name c.bytes.result.now)) (sym c.as_slice.ensures.value)
    ∙ sym c.place_of.ensures ∙ c.in-Some.is)

pub returns-in_ok-push-in-None : goal.returns-in_ok-push-in-None
returns-in_ok-push-in-None c =
    rw c.in_ok-push-in-None.ensures.items
    (placed_last c.args.edit c.args.pieces.now.items
    (ap (λ n. position (λ (q : Bor Edit). bytes_eq q.now.name n) c.args.pieces.now.items) (sym c.bytes.ensures.text)
    ∙ ap (position (λ (q : Bor Edit). bytes_eq q.now.name c.bytes.result.now)) (sym c.as_slice.ensures.value)
    ∙ sym c.place_of.ensures ∙ c.in-None.is))
