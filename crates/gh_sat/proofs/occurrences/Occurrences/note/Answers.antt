use Rattle.std.proofs.Common.{◌≡◌, List, subst, sym, get_or, take, take_all, arith, Contains, inl, inr}
use Rattle.std.proofs.lemmas.List.{take_more}
use Rattle.gh_base.specs.declared.atom.Lit.{Lit}
use Rattle.gh_sat.specs.Watch.{clauses_of, code_of}
use Rattle.gh_sat.proofs.StatusLemmas.{nothing}
use Rattle.gh_sat.proofs.WatchLemmas.{lists_more, in_push}
use Rattle.gh_sat.proofs.occurrences.Occurrences.note.Goals as goal

pub loop-lit-preserved : goal.loop-lit-preserved
loop-lit-preserved c =
    let i = c.loop-lit.invariant in
    let e = c.in_ok-add.ensures in
    let front = take c.loop-lit.lit-index c.args.clause.now in
    let l = get_or c.args.clause.now c.loop-lit.lit-index nothing in
    record {
      listed =
          λ m there. elim (in_push front l m
          (subst (λ (xs : List Lit). Contains xs m)
          (take_more c.args.clause.now c.loop-lit.lit-index nothing c.loop-lit-test.true) there)) [
            | inl old ↦ e.more.keeps (code_of c.args.sizes m) c.args.number (i.listed m old)
            | inr same ↦
                subst (λ (q : Lit). Contains (clauses_of c.args.sizes c.add.new.self q) c.args.number) same e.listed
          ];
      more = lists_more c.args.self.now c.loop-lit.self c.add.new.self i.more e.more;
    }

pub returns-clause-listed : goal.returns-clause-listed
returns-clause-listed c =
    let whole : take c.loop-lit.lit-index c.args.clause.now ≡ c.args.clause.now =
    take_all c.loop-lit.lit-index c.args.clause.now (omega arith) in
    λ m there. c.loop-lit.invariant.listed m (subst (λ (xs : List Lit). Contains xs m) (sym whole) there)
