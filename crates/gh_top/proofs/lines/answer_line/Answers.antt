use Rattle.std.proofs.Common.{◌≡◌, ◌∙◌, ◌++◌, List, ℕ, ap, append_assoc}
use Rattle.std.specs.Prelude.{codes}
use Rattle.std.specs.Fmt.{decimal}
use Rattle.gh_base.specs.Texts.{line_end}
use Rattle.gh_top.proofs.lines.answer_line.Goals as goal

told : (a n b d c e one : List ℕ) → one ≡ a ++ (n ++ (b ++ (d ++ (c ++ e)))) → one ≡ (a ++ n ++ b ++ d ++ c) ++ e
told a n b d c e one x = rw x (simp append_assoc)

pub returns : goal.returns
returns c =
    told (codes "answer ") (decimal c.args.number) (codes ", ") (decimal c.args.decided) (codes " decided") line_end
    c.push.new.self
    (c.in_ok-push.ensures.ok ∙ ap (λ z. z ++ c.as_bytes.result.now) c.new-text.ensures ∙ c.as_bytes.ensures.value
    ∙ c.in_ok-written.ensures.ok)
