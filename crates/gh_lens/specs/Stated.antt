-- Contracts and invariants as they stand in a text.
use Rattle.std.specs.Prelude.{◌≡◌, List, ◌++◌, map}
use Rattle.gh_ast.specs.Plain.{assertion_of, procedure_of}
use Rattle.gh_lens.specs.Assertions.{Subject, AreRemarks}
use Rattle.gh_lens.specs.declared.remarks.Remark.{Remark}
use Rattle.gh_lens.specs.declared.remarks.Stated.{Stated}

abbrev pub subject_of : Stated → Subject
subject_of s = record {
  kind = s.kind;
  procedure = procedure_of s.procedure.now;
  place = s.place;
  alternatives = map assertion_of s.alternatives.now;
}

-- more remarks, one for each of some subjects
abbrev pub AddsRemarks : List Remark → List Remark → List Subject → Type 0
AddsRemarks old new ss = (rs : List Remark) × (new ≡ old ++ rs) × AreRemarks ss rs
