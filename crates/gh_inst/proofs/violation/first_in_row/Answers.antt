use Rattle.std.proofs.Common.{◌∙◌, sym, arith}
use Rattle.gh_base.specs.Structures.{interpretation_of}
use Rattle.gh_inst.specs.Table.{row_of}
use Rattle.gh_inst.proofs.ViolationLemmas.{row_same, versions_on, versions_found, versions_end}
use Rattle.gh_inst.proofs.violation.first_in_row.Goals as goal

pub returns-then-is_some : goal.returns-then-is_some
returns-then-is_some c = λ r e.
    let s = c.args.structure.now in
    let row = c.in_ok-row.row in
    versions_found (interpretation_of s) s.sizes.terms s.sizes.versions c.loop-version.version
    (row_of c.args.number row) r
    c.first_in_version-found.result
    (row_same c.args.number row r _ c.row_numbered.ensures (c.in_ok-row.was {u = tt}) e)
    (sym c.is_some.ensures ∙ c.if-is_some.true) (omega arith) c.loop-version.invariant c.first_in_version-found.ensures

pub loop-version-preserved : goal.loop-version-preserved
loop-version-preserved c =
    let s = c.args.structure.now in
    versions_on (interpretation_of s) s.sizes.terms s.sizes.versions c.loop-version.version
    (row_of c.args.number c.in_ok-row.row) c.first_in_version-found.result
    (sym c.is_some.ensures ∙ c.if-is_some.false) (omega arith) c.loop-version.invariant c.first_in_version-found.ensures

pub returns : goal.returns
returns c = λ r e.
    let s = c.args.structure.now in
    let row = c.in_ok-row.row in
    versions_end (interpretation_of s) s.sizes.terms s.sizes.versions c.loop-version.version
    (row_of c.args.number row) r
    (row_same c.args.number row r _ c.row_numbered.ensures (c.in_ok-row.was {u = tt}) e) (omega arith)
    c.loop-version.invariant
