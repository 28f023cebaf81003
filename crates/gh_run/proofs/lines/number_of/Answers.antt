use Rattle.std.proofs.Common.{◌∙◌, sym}
use Rattle.gh_run.proofs.Finding.{found_at, other_name, none_of_name}
use Rattle.gh_run.proofs.lines.number_of.Goals as goal

pub returns-then-eq : goal.returns-then-eq
returns-then-eq c =
    found_at c.args.program.now c.deref-procedure-items.result.now c.loop-i.i c.procedure-item.result c.args.name.now
    c.bytes.result.now c.deref-procedure-items.ensures.value c.loop-i-test.true c.procedure-item.is
    c.bytes.ensures.text (sym c.eq.ensures ∙ c.if-eq.true)

pub loop-i-preserved : goal.loop-i-preserved
loop-i-preserved c =
    other_name c.args.program.now c.deref-procedure-items.result.now c.loop-i.i c.procedure-item.result c.args.name.now
    c.bytes.result.now c.deref-procedure-items.ensures.value c.loop-i-test.true c.procedure-item.is
    c.bytes.ensures.text (sym c.eq.ensures ∙ c.if-eq.false) c.loop-i.invariant

pub returns : goal.returns
returns c =
    none_of_name c.args.program.now c.deref-procedure-items.result.now c.loop-i.i c.args.name.now
    c.deref-procedure-items.ensures.value c.loop-i-test.false c.loop-i.invariant
