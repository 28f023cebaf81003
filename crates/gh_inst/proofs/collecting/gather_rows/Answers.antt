use Rattle.std.proofs.Common.{◌≡◌, ◌+◌, ◌-◌, arith, subst, All, take, take_all}
use Rattle.gh_base.specs.Structures.{interpretation_of}
use Rattle.gh_inst.specs.Table.{AxiomRow, table}
use Rattle.gh_inst.specs.Collecting.{Gathers, RowHolds, IsNamed, place}
use Rattle.gh_inst.proofs.InstanceLemmas.{row_at}
use Rattle.gh_inst.proofs.ViolationLemmas.{row_of_number}
use Rattle.gh_inst.proofs.CollectingLemmas.{row_next, rows_hold}
use Rattle.gh_inst.proofs.UpLemmas.{still_up}
use Rattle.gh_inst.proofs.FirstLemmas.{named_next}
use Rattle.gh_inst.proofs.collecting.gather_rows.Goals as goal

pub loop-number-preserved : goal.loop-number-preserved
loop-number-preserved c =
    let a = c.args in
    let s = a.structure.now.sizes in
    let m = interpretation_of a.structure.now in
    let number = c.loop-number.number in
    let r = row_of_number number (omega arith) (omega arith) in
    let same : number - 1 + 1 ≡ number + 1 - 1 = omega arith in
    let in_row : Gathers s m c.loop-number.found.items c.gather_row.new.found.items
    (RowHolds s m a.version (row_at (number - 1))) = c.in_ok-gather_row.ensures.gathers (row_at (number - 1)) r.1 in
    record {
      gathers = subst (λ k. Gathers s m a.found.now.items c.gather_row.new.found.items
          (All (RowHolds s m a.version) (take k table))) same
          (row_next s m a.found.now.items c.loop-number.found.items c.gather_row.new.found.items a.version (number - 1)
          (row_at (number - 1)) r.0 c.loop-number.invariant.gathers in_row);
      named = subst (λ k. All (IsNamed s m a.version c.gather_row.new.found.items) (take k table)) same
          (named_next s m a.version (number - 1) (RowHolds s m a.version (row_at (number - 1)))
          c.loop-number.found.items c.gather_row.new.found.items (row_at (number - 1)) r.0 in_row
          c.loop-number.invariant.named (c.in_ok-gather_row.ensures.named (row_at (number - 1)) r.1));
      up = λ before. c.in_ok-gather_row.ensures.up (c.loop-number.invariant.up before);
    }

pub returns-clause-gathers : goal.returns-clause-gathers
returns-clause-gathers c =
    let a = c.args in
    let s = a.structure.now.sizes in
    let m = interpretation_of a.structure.now in
    rows_hold s m a.found.now.items c.loop-number.found.items a.version (c.loop-number.number - 1) (omega arith)
    c.loop-number.invariant.gathers

pub returns-clause-named : goal.returns-clause-named
returns-clause-named c =
    let a = c.args in
    let P : AxiomRow → Type 0 =
    IsNamed a.structure.now.sizes (interpretation_of a.structure.now) a.version c.loop-number.found.items in
    record {
      rows = subst (All P) (take_all (c.loop-number.number - 1) table (omega arith))
          c.loop-number.invariant.named;
    }

pub returns-clause-up : goal.returns-clause-up
returns-clause-up c = λ before.
    let v = c.args.version in
    still_up (place v c.loop-number.number 0 0) (place (v + 1) 0 0 0) c.loop-number.found.items (omega arith)
    (c.loop-number.invariant.up before)
