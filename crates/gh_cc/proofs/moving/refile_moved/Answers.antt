use Rattle.std.proofs.Common.{inl, inr, ap, subst, arith}
use Rattle.std.proofs.lemmas.Bool.{cases_eq}
use Rattle.gh_base.specs.Atoms.{term}
use Rattle.gh_cc.specs.Kept.{IsFiled}
use Rattle.gh_cc.specs.Uses.{Mentions, IsMoved}
use Rattle.gh_cc.proofs.FilingLemmas.{grows_on, grows_filed}
use Rattle.gh_cc.proofs.moving.refile_moved.Goals as goal
use Rattle.gh_cc.proofs.moving.refile_moved.Goals.{then-is_moved+in_default, else-is_moved}

pub loop-t-preserved : goal.loop-t-preserved
loop-t-preserved c =
    let i = c.loop-t.invariant in
    let lits = c.args.indexed.now.lits.now in
    let links = c.args.partition.now.links in
    elim c.if-is_moved.branch [
      | then-is_moved+in_default w ↦
          let f = w.in_default.ensures in
          let now = w.refile_term.new.signatures in
          rw w.signatures-is (record {
            tied = f.tied;
            grows = grows_on _ _ _ i.grows f.grows;
            filed = λ n k u at mentions below moved.
                elim (cases_eq u.0 c.loop-t.t) as (λ _. IsFiled c.args.indexed.now.sizes lits links now.entries k) [
                  | inl same ↦ f.filed n k at (subst (Mentions k.atom) (ap term same) mentions)
                  | inr ne ↦ grows_filed c.args.indexed.now.sizes lits links c.loop-t.signatures now f.grows k
                      (i.filed n k u at mentions (omega arith) moved)
                ];
          })
      | else-is_moved w ↦
          rw w.signatures-is (record {
            tied = i.tied;
            grows = i.grows;
            filed = λ n k u at mentions below moved.
                elim (cases_eq u.0 c.loop-t.t) as (λ _.
                IsFiled c.args.indexed.now.sizes lits links c.loop-t.signatures.entries k) [
                  | inl same ↦ absurd (w.if-is_moved.ensures (subst (IsMoved links) (ap term same) moved))
                  | inr ne ↦ i.filed n k u at mentions (omega arith) moved
                ];
          })
    ]

pub returns-clause-filed : goal.returns-clause-filed
returns-clause-filed c i l t at mentions range moved = c.loop-t.invariant.filed i l t at mentions (omega arith) moved
