use Rattle.std.proofs.Common.{sym, subst}
use Rattle.gh_log.specs.Lines as line
use Rattle.gh_log.specs.Tables.{line_of}
use Rattle.gh_log.specs.declared.lines.LogLine.{LogLine}
use Rattle.gh_check.specs.Lines.{IsChecked, IsKeptAfter}
use Rattle.gh_check.specs.Kept.{AreWithin}
use Rattle.gh_check.specs.Assuming.{IsBehind}
use Rattle.gh_check.specs.RootUnits.{AreRootUnitsOf}
use Rattle.gh_check.proofs.LineLemmas.{kept_after}
use Rattle.gh_check.proofs.lines.check_line.Goals as goal

pub returns-in-Axiom-clause-checked : goal.returns-in-Axiom-clause-checked
returns-in-Axiom-clause-checked c =
    λ earlier h. subst (λ (l : LogLine). IsChecked c.args.ground.now earlier (line_of l) c.check_axiom.result)
    (sym c.in-Axiom.is) (c.check_axiom.ensures earlier)

pub returns-in-Axiom-clause-kept : goal.returns-in-Axiom-clause-kept
returns-in-Axiom-clause-kept c =
    λ earlier h. subst (λ (l : LogLine). IsKeptAfter c.args.ground.now earlier (line_of l) c.check_axiom.result
    c.args.before.now.kept) (sym c.in-Axiom.is)
    (kept_after c.args.ground.now earlier c.args.before.now.kept (line.Axiom _) c.check_axiom.result (λ n d. d) h
    (c.check_axiom.ensures earlier))

pub returns-in-Clause-clause-checked : goal.returns-in-Clause-clause-checked
returns-in-Clause-clause-checked c =
    λ earlier h. subst (λ (l : LogLine). IsChecked c.args.ground.now earlier (line_of l) c.check_clause.result)
    (sym c.in-Clause.is) (c.check_clause.ensures earlier)

pub returns-in-Clause-clause-kept : goal.returns-in-Clause-clause-kept
returns-in-Clause-clause-kept c =
    λ earlier h. subst (λ (l : LogLine). IsKeptAfter c.args.ground.now earlier (line_of l) c.check_clause.result
    c.args.before.now.kept) (sym c.in-Clause.is)
    (kept_after c.args.ground.now earlier c.args.before.now.kept (line.Clause _) c.check_clause.result (λ n d. d) h
    (c.check_clause.ensures earlier))

pub returns-in_ok-check_lemma-in-Lemma-clause-checked : goal.returns-in_ok-check_lemma-in-Lemma-clause-checked
returns-in_ok-check_lemma-in-Lemma-clause-checked c =
    λ earlier h. subst (λ (l : LogLine). IsChecked c.args.ground.now earlier (line_of l)
    c.in_ok-check_lemma-in-Lemma.field-0) (sym c.in-Lemma.is) (c.in_ok-check_lemma-in-Lemma.ensures earlier)

pub returns-in_ok-check_lemma-in-Lemma-clause-kept : goal.returns-in_ok-check_lemma-in-Lemma-clause-kept
returns-in_ok-check_lemma-in-Lemma-clause-kept c =
    λ earlier h. subst (λ (l : LogLine). IsKeptAfter c.args.ground.now earlier (line_of l)
    c.in_ok-check_lemma-in-Lemma.field-0 c.args.before.now.kept) (sym c.in-Lemma.is)
    (kept_after c.args.ground.now earlier c.args.before.now.kept (line.Lemma _) c.in_ok-check_lemma-in-Lemma.field-0
    (λ n d. d) h (c.in_ok-check_lemma-in-Lemma.ensures earlier))

pub returns-in_ok-check_learnt-in-Learnt-clause-checked : goal.returns-in_ok-check_learnt-in-Learnt-clause-checked
returns-in_ok-check_learnt-in-Learnt-clause-checked c =
    λ earlier h. subst (λ (l : LogLine). IsChecked c.args.ground.now earlier (line_of l)
    c.in_ok-check_learnt-in-Learnt.field-0) (sym c.in-Learnt.is)
    (c.in_ok-check_learnt-in-Learnt.ensures.checked c.args.ground.now (sym c.sizes.ensures.sizes) earlier h)

pub returns-in_ok-check_learnt-in-Learnt-clause-kept : goal.returns-in_ok-check_learnt-in-Learnt-clause-kept
returns-in_ok-check_learnt-in-Learnt-clause-kept c =
    λ earlier h. subst (λ (l : LogLine). IsKeptAfter c.args.ground.now earlier (line_of l)
    c.in_ok-check_learnt-in-Learnt.field-0 c.args.before.now.kept) (sym c.in-Learnt.is)
    (kept_after c.args.ground.now earlier c.args.before.now.kept (line.Learnt _) c.in_ok-check_learnt-in-Learnt.field-0
    (λ n d. d) h (c.in_ok-check_learnt-in-Learnt.ensures.checked c.args.ground.now (sym c.sizes.ensures.sizes)
    earlier h))

pub returns-in_ok-check_hinted-in-Hinted-clause-checked : goal.returns-in_ok-check_hinted-in-Hinted-clause-checked
returns-in_ok-check_hinted-in-Hinted-clause-checked c =
    λ earlier h. subst (λ (l : LogLine). IsChecked c.args.ground.now earlier (line_of l)
    c.in_ok-check_hinted-in-Hinted.field-0) (sym c.in-Hinted.is)
    (c.in_ok-check_hinted-in-Hinted.ensures.checked earlier h)

pub returns-in_ok-check_hinted-in-Hinted-clause-kept : goal.returns-in_ok-check_hinted-in-Hinted-clause-kept
returns-in_ok-check_hinted-in-Hinted-clause-kept c =
    λ earlier h. subst (λ (l : LogLine). IsKeptAfter c.args.ground.now earlier (line_of l)
    c.in_ok-check_hinted-in-Hinted.field-0 c.args.before.now.kept) (sym c.in-Hinted.is)
    (kept_after c.args.ground.now earlier c.args.before.now.kept (line.Hinted _ _)
    c.in_ok-check_hinted-in-Hinted.field-0 (λ n d. d) h (c.in_ok-check_hinted-in-Hinted.ensures.checked earlier h))

pub returns-in-Delete-clause-checked : goal.returns-in-Delete-clause-checked
returns-in-Delete-clause-checked c =
    λ earlier h. subst (λ (l : LogLine). IsChecked c.args.ground.now earlier (line_of l) c.check_deletion.result)
    (sym c.in-Delete.is) (c.check_deletion.ensures.checked c.args.ground.now earlier h)

pub returns-in-Delete-clause-ready : goal.returns-in-Delete-clause-ready
returns-in-Delete-clause-ready c =
    let same = sym c.check_deletion.ensures.clauses in
    record {
      within = subst (AreWithin c.args.ground.now.sizes) same c.requires.within;
      root_units =
          subst (λ es. AreRootUnitsOf c.args.ground.now.sizes es c.args.before.now.root_units) same
          c.requires.root_units;
      behind = subst (λ es. IsBehind c.args.ground.now.sizes es c.args.before.now.units) same c.requires.behind;
      truths = c.requires.truths;
    }
