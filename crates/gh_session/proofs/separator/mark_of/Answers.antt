use Rattle.std.proofs.Common.{◌≡◌, sym, subst, Bool}
use Rattle.std.proofs.lemmas.Bool.{false≢true}
use Rattle.std.proofs.lemmas.List.{take_rest}
use Rattle.gh_ast.specs.Programs.{Name}
use Rattle.gh_base.specs.Names.{IsNameText}
use Rattle.gh_session.specs.Lines.{separator}
use Rattle.gh_session.proofs.Separating.{bare_is, no_name}
use Rattle.gh_session.proofs.separator.mark_of.Goals as goal

pub returns-in_default-clause-none : goal.returns-in_default-clause-none
returns-in_default-clause-none c = λ asks n s.
    let none : (a : Bool) (m : Name) → c.bare-bare.result.now ≡ separator a m → ⊥ =
    rw c.in_default.is at c.asked.ensures.none in
    none asks n (bare_is c.args.line.now c.bare-bare.result.now asks n c.bare-bare.ensures s)

pub returns-in_default-2-clause-none : goal.returns-in_default-2-clause-none
returns-in_default-2-clause-none c = λ asks n s.
    no_name c.args.line.now c.bare-bare.result.now asks n c.bare-bare.ensures
    (λ named. absurd (false≢true
    (rw c.in_default-2.is at c.in_ok-name.ensures.found.1
    (subst IsNameText (sym (take_rest c.bare-bare.result.now 3)) named)))) s
