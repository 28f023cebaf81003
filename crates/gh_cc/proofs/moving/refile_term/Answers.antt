use Rattle.std.proofs.Common.{◌≡◌, inl, inr, ◌-◌, ◌/◌, Some, length, ap, subst, arith, List, Option, ◌∙◌}
use Rattle.std.specs.Prelude.{slice_get}
use Rattle.std.proofs.lemmas.Bool.{cases_lt}
use Rattle.gh_base.specs.declared.atom.Term.{Term}
use Rattle.gh_cc.specs.Kept.{IsFiled}
use Rattle.gh_base.proofs.ListLemmas.{get_within}
use Rattle.gh_cc.proofs.FilingLemmas.{grows_none, grows_on, grows_filed}
use Rattle.gh_cc.proofs.MoveLemmas.{mentions_long, mention_at}
use Rattle.gh_cc.proofs.moving.refile_term.Goals as goal

pub loop-next-init : goal.loop-next-init
loop-next-init c =
    let e = c.last-next.ensures in
    record {
      tied = c.requires.tied;
      grows = grows_none c.args.signatures.now;
      within = e.within;
      here = e.here;
      filed = λ j k low at there.
          absurd (e.none j low (get_within c.args.indexed.now.uses.now.list j (Some c.args.term) at) at);
    }

pub file-requires-clause-place : goal.file-requires-clause-place
file-requires-clause-place c =
    let within = c.loop-next.invariant.within in
    omega (arith, mentions_long c.args.indexed.now.lits.now, ap length c.requires.uses)

pub loop-next-preserved : goal.loop-next-preserved
loop-next-preserved c =
    let i = c.loop-next.invariant in
    let e = c.before-next.ensures in
    let f = c.in_default.ensures in
    record {
      tied = f.tied;
      grows = grows_on _ _ _ i.grows f.grows;
      within = let a = e.within in let b = i.within in omega arith;
      here = e.here;
      filed = λ j k low at there.
          elim (cases_lt j (c.loop-next.next - 1)) as (λ _.
          IsFiled c.args.indexed.now.sizes c.args.indexed.now.lits.now c.args.partition.now.links
          c.file.new.signatures.entries k) [
            | inl lt ↦ absurd (e.none j low lt at)
            | inr ge ↦ elim (cases_lt j c.loop-next.next) as (λ _.
                IsFiled c.args.indexed.now.sizes c.args.indexed.now.lits.now c.args.partition.now.links
                c.file.new.signatures.entries k) [
                  | inl here ↦
                      let is : j ≡ c.loop-next.next - 1 = omega arith in
                      f.filed k (subst (λ n. slice_get c.args.indexed.now.lits.now (n / 3) ≡ Some k) is there)
                  | inr past ↦
                      grows_filed c.args.indexed.now.sizes c.args.indexed.now.lits.now c.args.partition.now.links
                      c.loop-next.signatures c.file.new.signatures f.grows k (i.filed j k past at there)
                ]
          ];
    }

pub returns-clause-filed : goal.returns-clause-filed
returns-clause-filed c i l at mentions =
    let w = mention_at c.args.indexed.now.lits.now i l c.args.term at mentions in
    let there : slice_get c.args.indexed.now.uses.now.list w.0 ≡ Some (Some c.args.term) =
    ap (λ (ts : List (Option Term)). slice_get ts w.0) c.requires.uses ∙ w.2 in
    c.loop-next.invariant.filed w.0 l (omega arith) there (ap (slice_get c.args.indexed.now.lits.now) w.1 ∙ at)
