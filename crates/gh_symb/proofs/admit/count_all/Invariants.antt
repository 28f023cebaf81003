use Rattle.std.proofs.Common.{◌≡◌, None, drop, map, take}
use Rattle.gh_ast.specs.Plain.{program_of}
use Rattle.gh_path.specs.Conditions.{conditions}
use Rattle.gh_path.specs.Walks.{IsWalkBefore}
use Rattle.gh_symb.specs.Limits.{HasTerms}
use Rattle.gh_symb.specs.Met.{NoneMet, IsMet}
use Rattle.gh_symb.proofs.AdmitLemmas.{its_count}
use Rattle.gh_symb.proofs.admit.count_all.Given as goal

abbrev pub invariant-loop-place : goal.invariant-loop-place
invariant-loop-place l = record {
  before : IsWalkBefore (program_of l.typed) l.walk (drop l.place (conditions (program_of l.typed)));
  few : NoneMet (program_of l.typed) (HasTerms (program_of l.typed)) l.place;
  late : IsMet (program_of l.typed) l.place l.late;
  counts : l.late ≡ None → l.counts.items
      ≡ map (its_count (program_of l.typed)) (take l.place (conditions (program_of l.typed)));
}
