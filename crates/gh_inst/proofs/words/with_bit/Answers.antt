use Rattle.std.proofs.Common.{◌∙◌, ap, sym, arith, w32}
use Rattle.std.proofs.lemmas.Nat.Bits.{bit_at_set_same, bit_at_set_other}
use Rattle.gh_inst.specs.Words.{bit_of}
use Rattle.gh_inst.proofs.words.with_bit.Goals as goal

pub returns-then-truth-clause-here : goal.returns-then-truth-clause-here
returns-then-truth-clause-here c =
    λ e. bit_at_set_same w32 c.args.word c.args.place (omega (arith, c.requires)) ∙ sym (ap bit_of c.if-truth.true)

pub returns-then-truth-clause-others : goal.returns-then-truth-clause-others
returns-then-truth-clause-others c =
    λ i h. bit_at_set_other w32 c.args.word c.args.place (omega (arith, c.requires)) i h
