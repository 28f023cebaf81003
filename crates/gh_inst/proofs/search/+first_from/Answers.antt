use Rattle.std.proofs.Common.{◌-◌, ◌∙◌, arith, sym, take}
use Rattle.gh_base.specs.Structures.{interpretation_of}
use Rattle.gh_inst.proofs.SearchLemmas.{block_true, block_false}
use Rattle.gh_inst.proofs.WalkLemmas.{walk_on, walk_found, walk_end}
use Rattle.gh_inst.proofs.search.+first_from.Goals as goal

pub returns-then-is_row_always_true : goal.returns-then-is_row_always_true
returns-then-is_row_always_true t c =
    let a = c.args in
    block_true (interpretation_of a.structure.now) a.version (a.variables - a.first) a.structure.now.sizes.terms
    a.lits.now (take a.first a.start) (c.is_row_always_true.ensures.always c.if-is_row_always_true.true)

pub returns-then-first-variables : goal.returns-then-first-variables
returns-then-first-variables t c =
    let a = c.args in
    block_false (interpretation_of a.structure.now) a.version a.variables a.first a.structure.now.sizes.terms a.lits.now
    a.start c.if-first-variables.true
    (c.is_row_always_true.ensures.open (λ h. absurd cc) (rw c.if-first-variables.true c.requires.lits))

pub returns-then-is_some : goal.returns-then-is_some
returns-then-is_some t c =
    walk_found c.args.variables c.first_from-found.result (sym c.is_some.ensures ∙ c.if-is_some.true)
    c.loop-term.invariant (omega arith) (omega arith) (omega arith) c.first_from-found.ensures

pub loop-term-preserved : goal.loop-term-preserved
loop-term-preserved t c =
    walk_on c.args.variables c.first_from-found.result (sym c.is_some.ensures ∙ c.if-is_some.false)
    c.loop-term.invariant (omega arith) (omega arith) c.first_from-found.ensures

pub returns : goal.returns
returns t c = walk_end c.args.variables c.loop-term.invariant (omega arith) (omega arith)
