use Rattle.std.proofs.Common.{◌≡◌, ◌++◌, ◌∷◌, [], sym, ap, subst}
use Rattle.std.proofs.lemmas.List.Elements.{All-push}
use Rattle.gh_log.specs.Sections.{line_clause}
use Rattle.gh_check.specs.Kept.{Kept, IsWithin, AreWithin}
use Rattle.gh_check.specs.Assuming.{IsBehind}
use Rattle.gh_check.specs.RootUnits.{AreRootUnitsOf}
use Rattle.gh_check.proofs.UnitsLemmas.{behind_push}
use Rattle.gh_check.proofs.RootUnitsLemmas.{may_push}
use Rattle.gh_check.proofs.check.keep.Goals as goal

pub returns-clause-ready : goal.returns-clause-ready
returns-clause-ready c =
    let old = c.args.before.now in
    λ sizes l next within ready.
    let clause = line_clause old.kept.problem l in
    let same : c.advance.new.self.clauses ≡ old.kept.clauses ++ clause ∷ [] =
    ap (λ (k : Kept). k.clauses) (c.advance.ensures l next) in
    record {
      within =
          subst (AreWithin sizes) (sym same) (All-push (IsWithin sizes) old.kept.clauses clause ready.within within);
      root_units =
          subst (λ es. AreRootUnitsOf sizes es old.root_units) (sym same)
          (may_push sizes old.kept.clauses clause old.root_units ready.root_units);
      behind =
          subst (λ es. IsBehind sizes es old.units) (sym same)
          (behind_push sizes old.kept.clauses clause old.units ready.behind);
      truths = ready.truths;
    }
