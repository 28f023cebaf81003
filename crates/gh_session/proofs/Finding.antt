-- What stands at a place of a list that is read twice over.
use Rattle.std.proofs.Common.{◌≡◌, ◌∙◌, refl, sym, ap, ℕ, ◌<◌, ◌≤◌, List, [], map, length, get_or, option_map, arith}
use Rattle.std.proofs.lemmas.List.{length-map, get_or_past}
use Rattle.std.proofs.lemmas.Option.{slice_get-map, slice_get_read, get_or_from_slice_get}
use Rattle.gh_ast.specs.declared.Assertion.{Assertion}
use Rattle.gh_ast.specs.declared.Assertion.TheVariants.{Emp}
use Rattle.gh_ast.specs.Plain.{assertion_of}
use Rattle.gh_ast.specs.Programs.{Name}
use Rattle.gh_ast.proofs.PlainLemmas.{formula_of-Emp}
use Rattle.gh_session.specs.Essences.{Contract, LoopContract, no_contract, no_loop_contract}

pub at_some : {A B C : Type 0} (f : B → C) (g : A → B) (xs : List A) (n k : ℕ) (x : A) (d : C) → n ≡ k → n < length xs
    → x ≡ get_or xs n x → f (g x) ≡ get_or (map f (map g xs)) k d
at_some f g xs n k x d same within is =
    sym (get_or_from_slice_get (map f (map g xs)) n (f (g x)) d
    (slice_get-map f (map g xs) n
    ∙ ap (option_map f) (slice_get-map g xs n
    ∙ ap (option_map g) (slice_get_read xs (length xs) n x refl within is))))
    ∙ ap (λ m. get_or (map f (map g xs)) m d) same

pub at_none : {A B C : Type 0} (f : B → C) (g : A → B) (xs : List A) (n k : ℕ) (d : C) → n ≡ k → length xs ≤ n
    → d ≡ get_or (map f (map g xs)) k d
at_none f g xs n k d same past =
    let count : length (map f (map g xs)) ≤ k = omega (arith, past, same, length-map (map g xs) f, length-map xs g) in
    sym (get_or_past (map f (map g xs)) k d count)

pub bare_contract : (xs ys : List Name) (fs : List Assertion) → xs ≡ [] → ys ≡ [] → fs ≡ []
    → (let k : Contract = record {
      parameters = xs;
      results = ys;
      needs = assertion_of Emp;
      gives = map assertion_of fs;
    } in k) ≡ no_contract
bare_contract xs ys fs e f g =
    λ i. record { parameters = e i; results = f i; needs = formula_of-Emp i; gives = map assertion_of (g i) }

pub bare_round : (xs : List Name) → xs ≡ []
    → (let k : LoopContract = record { invariant = assertion_of Emp; assigned = xs } in k) ≡ no_loop_contract
bare_round xs e = λ i. record { invariant = formula_of-Emp i; assigned = e i }
