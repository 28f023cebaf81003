use Rattle.std.proofs.Common.{sym}
use Rattle.gh_types.proofs.TableLemmas.{meant_got, meant_nowhere}
use Rattle.gh_types.proofs.scope.Scope.callee_of.Goals as goal

pub returns-in_default : goal.returns-in_default
returns-in_default c =
    meant_nowhere c.args.self.now.procedures.now c.args.name.now.name
    (c.args.self.now.firsts_are.absent c.args.name.now.name
    (rw (← c.bytes.ensures.text) (sym c.in_default.ensures)))

pub returns : goal.returns
returns c =
    meant_got c.args.self.now.procedures.now c.args.name.now.name c.in-Some.place c.get.result
    (c.args.self.now.firsts_are.present c.args.name.now.name c.in-Some.place
    (rw (← c.bytes.ensures.text) (sym c.in-Some.ensures)))
    c.get.ensures.lookup.1
    c.get.ensures.lookup.2
