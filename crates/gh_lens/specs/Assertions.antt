-- Which contracts and invariants some heap meets. What none meets verifies anything that rests on it.
use Rattle.std.specs.Prelude.{◌≡◌, List, [], ◌∷◌, map, Bool, true, false}
use Rattle.std.specs.List.{flat_map}
use Rattle.gh_base.specs.declared.place.Span.{Span}
use Rattle.gh_ast.specs.Occurrences.{variables_of}
use Rattle.gh_ast.specs.Plain.{Assertion, empty, comparison, points_to, cell, segment, star, cases, Procedure, Program}
use Rattle.gh_ast.specs.Programs.{name_of}
use Rattle.gh_ast.specs.Questions.{leaf, either, claims_of, no_claims, Question}
use Rattle.gh_assert.specs.Heaps.{Heap}
use Rattle.gh_assert.specs.Meaning.{Store, MeetsOneOf}
use Rattle.gh_path.specs.Graphs.{While, loops_of}
use Rattle.gh_entail.specs.Asked.{IsAdmitted}
use Rattle.gh_lens.specs.declared.remarks.Kind.{Kind}
use Rattle.gh_lens.specs.declared.remarks.Kind.TheVariants.{Requires, Ensures, Invariant}
use Rattle.gh_lens.specs.declared.remarks.Meeting.{Meeting}
use Rattle.gh_lens.specs.declared.remarks.Meeting.TheVariants.{Met, Unmet, Unknown}
use Rattle.gh_lens.specs.declared.remarks.Remark.{Remark}

-- what a procedure requires, what it ensures, or the invariant of a loop of it; met where one of its alternatives is
pub record Subject : Type 0 where
  pub kind : Kind
  pub procedure : Procedure
  pub place : Span
  pub alternatives : List Assertion

abbrev pub requires_of : Procedure → Subject
requires_of p = record { kind = Requires; procedure = p; place = p.name.span; alternatives = p.needs ∷ [] }

abbrev pub ensures_of : Procedure → Subject
ensures_of p = record { kind = Ensures; procedure = p; place = p.name.span; alternatives = p.gives }

abbrev pub invariant_of : Procedure → While → Subject
invariant_of p l = record { kind = Invariant; procedure = p; place = l.at; alternatives = l.invariant ∷ [] }

abbrev pub subjects_of : Procedure → List Subject
subjects_of p = requires_of p ∷ ensures_of p ∷ map (invariant_of p) (loops_of p)

-- all contracts and invariants of a program, in their order
abbrev pub subjects : Program → List Subject
subjects P = flat_map subjects_of P.procedures

-- whether one of the alternatives implies what never holds
abbrev pub question_on : Subject → Question
question_on s =
    record {
      variables = variables_of s.procedure;
      span = s.place;
      left = either (claims_of (map leaf s.alternatives));
      right = either no_claims;
    }

-- some heap meets it, none does, or the question passes a limit
abbrev pub IsMeeting : Subject → Meeting → Type 0
IsMeeting s Met = (x : Store) × (h : Heap) × MeetsOneOf s.alternatives x h
IsMeeting s Unmet = (x : Store) (h : Heap) → MeetsOneOf s.alternatives x h → ⊥
IsMeeting s Unknown = IsAdmitted (question_on s) → ⊥

abbrev pub is_empty : Assertion → Bool
is_empty empty = true
is_empty (comparison l e r) = false
is_empty (points_to a t) = false
is_empty (cell a) = false
is_empty (segment f t) = false
is_empty (star fs) = false
is_empty (cases t a b) = false

-- `emp`, which a missing invariant is read as
abbrev pub is_bare : List Assertion → Bool
is_bare [] = false
is_bare (f ∷ []) = is_empty f
is_bare (f ∷ g ∷ fs) = false

-- the remark tells the subject's kind, procedure and place, whether it is just `emp`, and whether some heap meets it
pub record IsRemark (s : Subject) (r : Remark) : Type 0 where
  pub kind : r.kind ≡ s.kind
  pub procedure : r.procedure ≡ name_of s.procedure
  pub place : r.place ≡ s.place
  pub bare : r.is_bare ≡ is_bare s.alternatives
  pub meeting : IsMeeting s r.meeting

-- a remark on each subject, one by one
abbrev pub AreRemarks : List Subject → List Remark → Type 0
AreRemarks [] [] = Unit {0}
AreRemarks [] (r ∷ rs) = ⊥
AreRemarks (s ∷ ss) [] = ⊥
AreRemarks (s ∷ ss) (r ∷ rs) = IsRemark s r × AreRemarks ss rs
