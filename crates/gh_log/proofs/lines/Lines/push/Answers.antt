use Rattle.std.proofs.Common.{refl}
use Rattle.gh_log.proofs.TableLemmas.{same_lines, pushed_line, pushed_parts, pushed_held, still_parts, still_held}
use Rattle.gh_log.proofs.TableLemmas.{on_err}
use Rattle.gh_log.proofs.lines.Lines.push.Goals as goal

pub returns-in_err-entry-clause-err : goal.returns-in_err-entry-clause-err
returns-in_err-entry-clause-err c =
    on_err c.from_residual.result
    (same_lines c.self.inside.literals.items _ c.self.inside.numbers.items _ c.self.inside.entries.items _
    c.args.self.now c.enter.ensures.literals c.enter.ensures.numbers c.self.invariant.0 c.self.view_is refl)

pub returns-in_err-push-clause-err : goal.returns-in_err-push-clause-err
returns-in_err-push-clause-err c =
    on_err c.from_residual-in_err-push.result
    (same_lines c.self.inside.literals.items _ c.self.inside.numbers.items _ c.self.inside.entries.items _
    c.args.self.now c.enter.ensures.literals c.enter.ensures.numbers c.self.invariant.0 c.self.view_is
    c.in_err-push.ensures.items)

pub invariant_of-self : goal.invariant_of-self
invariant_of-self c =
    let i = c.self.inside in
    let e = c.enter.ensures in
    let l = i.literals.items in
    let n = i.numbers.items in (
      still_parts l _ n _ i.entries.items _ e.literals e.numbers c.self.invariant.0 refl,
      still_held l _ n _ i.entries.items _ e.literals e.numbers c.self.invariant.0 c.self.invariant.1 refl,
    )

pub invariant_of-self-in_err-push : goal.invariant_of-self-in_err-push
invariant_of-self-in_err-push c =
    let i = c.self.inside in
    let e = c.enter.ensures in
    let l = i.literals.items in
    let n = i.numbers.items in
    let same = c.in_err-push.ensures.items in (
      still_parts l _ n _ i.entries.items _ e.literals e.numbers c.self.invariant.0 same,
      still_held l _ n _ i.entries.items _ e.literals e.numbers c.self.invariant.0 c.self.invariant.1 same,
    )

pub invariant_of-self-2 : goal.invariant_of-self-2
invariant_of-self-2 c =
    let i = c.self.inside in
    let e = c.enter.ensures in
    let r = c.in_ok-entry.ensures in
    let added = c.in_ok-push.ensures.items in (
      pushed_parts i.literals.items c.enter.new.literals.items i.numbers.items c.enter.new.numbers.items i.entries.items
          _ c.in_ok-entry.entry e.literals e.numbers c.self.invariant.0 added r.parts,
      pushed_held i.literals.items c.enter.new.literals.items i.numbers.items c.enter.new.numbers.items i.entries.items
          _ c.in_ok-entry.entry _ e.literals e.numbers c.self.invariant.0 c.self.invariant.1 added
          r.line r.literals_room r.numbers_room,
    )

pub returns-clause-few : goal.returns-clause-few
returns-clause-few c = (invariant_of-self-2 c).1.few

pub returns-clause-ok : goal.returns-clause-ok
returns-clause-ok c =
    pushed_line c.self.inside.literals.items _ c.self.inside.numbers.items _ c.self.inside.entries.items _
    c.in_ok-entry.entry _ c.args.self.now c.enter.ensures.literals c.enter.ensures.numbers
    c.self.invariant.0 c.self.view_is c.in_ok-push.ensures.items c.in_ok-entry.ensures.line
