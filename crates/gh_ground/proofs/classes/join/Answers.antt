use Rattle.std.proofs.Common.{subst, sym, arith}
use Rattle.gh_base.specs.declared.atom.Term.{Term}
use Rattle.std.proofs.Common.{List, ◌++◌, ◌∷◌, []}
use Rattle.gh_cc.specs.Asserted.{equality}
use Rattle.gh_ground.specs.Making.{AreClassesOf}
use Rattle.gh_ground.proofs.ClassLemmas.{class_read, join_first, join_second}
use Rattle.gh_ground.proofs.classes.join.Goals as goal

pub returns-then-first-second : goal.returns-then-first-second
returns-then-first-second c = λ terms lits h.
    let cs = c.args.classes.now.items in
    let x = c.index-first.result.now in
    let y = c.index-second.result.now in
    let lt = c.if-first-second.true in
    subst (λ (v : List Term). AreClassesOf terms (lits ++ equality c.args.a c.args.b ∷ []) v) (sym c.relabel.ensures)
    (join_second terms lits cs c.args.a c.args.b y x h c.requires.first c.requires.second
    (class_read cs c.args.b.0 y c.requires.second c.index-second.ensures)
    (class_read cs c.args.a.0 x c.requires.first c.index-first.ensures) (omega arith))

pub returns-else-first-second : goal.returns-else-first-second
returns-else-first-second c = λ terms lits h.
    let cs = c.args.classes.now.items in
    let x = c.index-first.result.now in
    let y = c.index-second.result.now in
    subst (λ (v : List Term). AreClassesOf terms (lits ++ equality c.args.a c.args.b ∷ []) v)
    (sym c.relabel-else-first-second.ensures)
    (join_first terms lits cs c.args.a c.args.b x y h c.requires.first c.requires.second
    (class_read cs c.args.a.0 x c.requires.first c.index-first.ensures)
    (class_read cs c.args.b.0 y c.requires.second c.index-second.ensures) c.if-first-second.false)
