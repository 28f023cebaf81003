use Rattle.std.proofs.Common.{◌-◌, arith}
use Rattle.gh_base.specs.Structures.{interpretation_of}
use Rattle.gh_inst.proofs.WordLemmas.{all_ones}
use Rattle.gh_inst.proofs.OpenLemmas.{skipped_block}
use Rattle.gh_inst.proofs.collecting.second_terms.Goals as goal

pub returns-then-is_empty : goal.returns-then-is_empty
returns-then-is_empty c = λ y there few bit. absurd (all_ones y few bit)

pub returns : goal.returns
returns c = λ y there few bit.
    let r = c.args.row.now in
    let s = r.structure.now in
    (skipped_block (interpretation_of s) r.version (r.variables - 2) s.sizes.terms r.lits.now _ 1 c.open_terms.result y
    c.open_terms.ensures (omega arith) there bit).comes
