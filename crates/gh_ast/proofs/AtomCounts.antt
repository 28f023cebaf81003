-- The limits on atoms hold of each assertion of a procedure.
use Rattle.std.proofs.Common.{◌≡◌, ℕ, ◌+◌, ◌≤◌, List, [], ◌∷◌, map, inl, inr, ap, arith}
use Rattle.std.specs.Prelude.{All, Contains, sum}
use Rattle.std.proofs.lemmas.List.Elements.{All-contains}
use Rattle.std.proofs.lemmas.List.Sums.{sum_by-cons}
use Rattle.gh_ast.specs.Plain.{Assertion, Procedure}
use Rattle.gh_ast.specs.Limits.{atoms, atom_counts, invariants_in_body}
use Rattle.gh_ast.proofs.Lists.{member_first, member_later, member_cases, no_member}
use Rattle.gh_ast.proofs.Sites.{member_map}

-- the atoms of one assertion are among those of all together
one_of_all : (fs : List Assertion) (f : Assertion) → Contains fs f → atoms f ≤ sum (map atoms fs)
one_of_all [] f there = absurd (no_member f there)
one_of_all (d ∷ fs) f there =
    let total : sum (map atoms (d ∷ fs)) ≡ atoms d + sum (map atoms fs) =
    sum_by-cons (λ n. n) (atoms d) (map atoms fs) in
    elim (member_cases d fs f there) [
      | inl same ↦ let here : atoms d ≡ atoms f = ap atoms same in omega arith
      | inr more ↦ let rest : atoms f ≤ sum (map atoms fs) = one_of_all fs f more in omega arith
    ]

module _ (q : Procedure) (few : All (λ n. n ≤ 32) (atom_counts q)) where
  counted : (n : ℕ) → Contains (atom_counts q) n → n ≤ 32
  counted n there = All-contains (λ n. n ≤ 32) (atom_counts q) n few there

  abbrev ensured_count : ℕ
  ensured_count = sum (map atoms q.gives)

  abbrev invariant_counts : List ℕ
  invariant_counts = map atoms (invariants_in_body q.body)

  pub required_is_short : atoms q.needs ≤ 32
  required_is_short = counted (atoms q.needs) (member_first (atoms q.needs) (ensured_count ∷ invariant_counts))

  pub alternative_is_short : (f : Assertion) → Contains q.gives f → atoms f ≤ 32
  alternative_is_short f there =
      let all : ensured_count ≤ 32 =
      counted ensured_count (member_later (atoms q.needs) ensured_count (ensured_count ∷ invariant_counts)
      (member_first ensured_count invariant_counts)) in
      let one : atoms f ≤ ensured_count = one_of_all q.gives f there in
      omega arith

  pub invariant_is_short : (f : Assertion) → Contains (invariants_in_body q.body) f → atoms f ≤ 32
  invariant_is_short f there =
      counted (atoms f) (member_later (atoms q.needs) (atoms f) (ensured_count ∷ invariant_counts)
      (member_later ensured_count (atoms f) invariant_counts (member_map atoms (invariants_in_body q.body) f there)))
