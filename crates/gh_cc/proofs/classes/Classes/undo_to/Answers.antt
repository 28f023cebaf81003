use Rattle.std.proofs.Common.{◌≡◌, ◌<◌, ◌∙◌, length, take, List, Option, ◌*◌, sym, ap, subst, arith}
use Rattle.gh_cc.specs.Partitions.{Merged}
use Rattle.gh_cc.specs.Signatures.{Filed}
use Rattle.gh_cc.specs.Kept.{IsKept, stage_at}
use Rattle.gh_cc.specs.declared.classes.Stage.{Stage}
use Rattle.gh_base.specs.declared.atom.Term.{Term}
use Rattle.gh_cc.specs.Uses.{Mentioned, all_mentions}
use Rattle.gh_cc.specs.Fields.{core_of}
use Rattle.gh_cc.proofs.MoveLemmas.{mentions_take}
use Rattle.gh_cc.proofs.AssertLemmas.{kept_undo, kept_along, less_core, stage_is}
use Rattle.gh_cc.proofs.classes.Classes.undo_to.Goals as goal

pub invariant_of-self : goal.invariant_of-self
invariant_of-self c =
    let core = core_of c.self.inside in
    let kept : IsKept core = c.self.invariant.0 in
    let within : c.args.mark < length core.lits = omega arith in
    let stage = c.index-stage.result.now in
    let at : stage_at core c.args.mark ≡ stage =
    stage_is core c.args.mark stage (omega (arith, kept.staged)) c.index-stage.ensures in
    let now = subst (λ (t : Stage).
    IsKept (less_core core c.args.mark t)) at (kept_undo core c.args.mark kept within) in (
      kept_along (less_core core c.args.mark stage) _ _ _ _ _ now
          c.truncate.ensures.items c.truncate-then-left-len.ensures.items (ap (λ (p : Merged). p.links) c.cut.ensures)
          (ap (λ (f : Filed). f.entries) c.cut-then-left-len.ensures) c.clash_before-self-inside.ensures,
      (
        ap (λ (p : Merged). p.terms) c.cut.ensures ∙ c.self.invariant.1.0,
        ap (λ (f : Filed). f.count) c.cut-then-left-len.ensures ∙ c.self.invariant.1.1,
        ap (λ (u : Mentioned). u.terms) c.cut-then-left-len-2.ensures ∙ c.self.invariant.1.2,
      ),
      (
        c.self.invariant.2.0,
        omega (arith, c.truncate.ensures.capacity, c.self.invariant.2.1),
        omega (arith, c.truncate-then-left-len.ensures.capacity, c.self.invariant.2.2),
        omega (arith, ap (λ (u : Mentioned). u.room) c.cut-then-left-len-2.ensures, c.self.invariant.2.3),
      ),
      ap (λ (u : Mentioned). u.list) c.cut-then-left-len-2.ensures
          ∙ ap (λ (ts : List (Option Term)). take (3 * c.args.mark) ts) c.self.invariant.3
          ∙ mentions_take c.args.mark core.lits ∙ ap all_mentions (sym c.truncate.ensures.items),
    )
