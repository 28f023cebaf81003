use Rattle.std.proofs.Common.{◌-◌}
use Rattle.gh_base.specs.Structures.{interpretation_of}
use Rattle.gh_inst.proofs.SearchLemmas.{block_false}
use Rattle.gh_inst.proofs.OpenLemmas.{closed_block}
use Rattle.gh_inst.proofs.search.first_by_words.Goals as goal

pub returns-then-left-eq0 : goal.returns-then-left-eq0
returns-then-left-eq0 c =
    let a = c.args in
    closed_block (interpretation_of a.worded.now.structure.now) a.worded.now.version (a.variables - a.first)
    a.worded.now.structure.now.sizes.terms a.lits.now a.start a.first c.open_terms-left.result
    c.open_terms-left.ensures c.if-left-eq0.true c.requires.worded.some c.requires.terms

pub returns-then-first-variables : goal.returns-then-first-variables
returns-then-first-variables c =
    let a = c.args in
    block_false (interpretation_of a.worded.now.structure.now) a.worded.now.version a.variables a.first
    a.worded.now.structure.now.sizes.terms a.lits.now a.start c.if-first-variables.true
    (c.open_terms-left.ensures.known c.if-left-eq0.false (rw c.if-first-variables.true c.requires.lits))
