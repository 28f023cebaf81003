use Rattle.std.proofs.Common.{Some, None, refl, ◌-◌, ◌+◌, ◌<◌, ◌∙◌, arith, sym, set}
use Rattle.std.proofs.lemmas.Nat.Bits.{shr_and_one}
use Rattle.gh_base.specs.Structures.{interpretation_of}
use Rattle.gh_base.specs.Atoms.{term}
use Rattle.gh_inst.proofs.SearchLemmas.{block_false}
use Rattle.gh_inst.proofs.OpenLemmas.{closed_block, skipped_block, set_below}
use Rattle.gh_inst.proofs.WalkLemmas.{walk_past, walk_on, walk_found, walk_end}
use Rattle.gh_inst.proofs.search.+first_open.Goals as goal

pub loop-term-preserved-then-left-term-eq0 : goal.loop-term-preserved-then-left-term-eq0
loop-term-preserved-then-left-term-eq0 t c =
    let a = c.args in
    let l = c.loop-term in
    let s = a.worded.now.structure.now in
    walk_past l.invariant (omega arith)
    (skipped_block (interpretation_of s) a.worded.now.version (a.variables - (a.first + 1)) s.sizes.terms a.lits.now
    a.start a.first a.left l.term c.requires.left (omega (arith, c.requires)) (omega arith)
    (sym (shr_and_one a.left l.term) ∙ c.if-left-term-eq0.true))

pub loop-term-preserved-then-next-eq0 : goal.loop-term-preserved-then-next-eq0
loop-term-preserved-then-next-eq0 t c =
    let a = c.args in
    let l = c.loop-term in
    let s = a.worded.now.structure.now in
    let below = set_below s.sizes.terms a.first l.term l.tuple a.start (omega (arith, l.invariant.long))
    l.invariant.begins c.requires.terms (omega arith) in
    walk_on a.variables None refl l.invariant (omega arith) (omega arith)
    (closed_block (interpretation_of s) a.worded.now.version (a.variables - (a.first + 1)) s.sizes.terms a.lits.now
    (set l.tuple a.first (term l.term)) (a.first + 1) c.open_terms-next.result c.open_terms-next.ensures
    c.if-next-eq0.true c.requires.worded.some below)

pub returns-then-first-variables : goal.returns-then-first-variables
returns-then-first-variables t c =
    let a = c.args in
    let l = c.loop-term in
    let s = a.worded.now.structure.now in
    let full = set l.tuple a.first (term l.term) in
    walk_found a.variables (Some full) refl l.invariant c.requires.first (omega arith) (omega arith)
    (block_false (interpretation_of s) a.worded.now.version a.variables (a.first + 1) s.sizes.terms a.lits.now full
    c.if-first-variables.true
    (c.open_terms-next.ensures.known c.if-next-eq0.false (rw c.if-first-variables.true c.requires.lits)))

pub first_open-found-requires : goal.first_open-found-requires
first_open-found-requires t c =
    let a = c.args in
    let l = c.loop-term in
    let r = c.requires in
    let below = set_below a.worded.now.structure.now.sizes.terms a.first l.term l.tuple a.start
    (omega (arith, l.invariant.long)) l.invariant.begins r.terms (omega arith) in
    let more : a.first + 1 < a.variables = omega (arith, r.first, c.if-first-variables.false) in
    let next = c.open_terms-next.ensures in
    (omega (arith, c.decreases, r.first), (r.worded, (r.variables, (more, (r.lits, (below, next))))))

pub returns-then-is_some : goal.returns-then-is_some
returns-then-is_some t c =
    walk_found c.args.variables c.first_open-found.result (sym c.is_some.ensures ∙ c.if-is_some.true)
    c.loop-term.invariant c.requires.first (omega arith) (omega arith) c.first_open-found.ensures

pub loop-term-preserved : goal.loop-term-preserved
loop-term-preserved t c =
    walk_on c.args.variables c.first_open-found.result (sym c.is_some.ensures ∙ c.if-is_some.false)
    c.loop-term.invariant (omega arith) (omega arith) c.first_open-found.ensures

pub returns : goal.returns
returns t c = walk_end c.args.variables c.loop-term.invariant c.requires.first (omega arith)
