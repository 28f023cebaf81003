-- What is told of a loop and of a callee is what the numbers mean.
use Rattle.std.specs.Prelude.{◌≡◌, ◌<◌, ℕ, List, [], ◌++◌, codes, length, map, Some, None, Option, slice_get}
use Rattle.std.specs.Prelude.{slice_index_or, option_map}
use Rattle.std.proofs.Common.{refl, sym, ◌∙◌, ap, subst, arith}
use Rattle.std.proofs.lemmas.List.{append_assoc, length-map}
use Rattle.std.proofs.lemmas.Option.{slice_get-map, slice_get_read, slice_get_within, get_or_from_slice_get}
use Rattle.gh_base.specs.declared.place.Span.{Span}
use Rattle.gh_ast.specs.declared.Program.{Program}
use Rattle.gh_ast.specs.declared.Procedure.{Procedure}
use Rattle.gh_ast.specs.Plain.{program_of, procedure_of}
use Rattle.gh_ast.proofs.Lists.{one_value}
use Rattle.gh_path.specs.Graphs.{loops_of, check_place}
use Rattle.gh_path.specs.Conditions.{IsThere}
use Rattle.gh_path.specs.Kept.{start_of, asked_at, check_of, condition_of, IsScoped}
use Rattle.gh_path.specs.declared.loops.While.{While}
use Rattle.gh_path.specs.Walking.{loop_of}
use Rattle.gh_path.specs.declared.condition.Start.TheVariants as start
use Rattle.gh_path.specs.declared.condition.CheckKind.{CheckKind}
use Rattle.gh_path.specs.declared.condition.CheckKind.TheVariants as kind
use Rattle.gh_path.specs.declared.condition.Condition as kept
use Rattle.gh_draw.specs.Descriptions.{place_text, name_in, loops_in, loop_text, start_text, check_text}
use Rattle.gh_draw.specs.Kept.{HasStart, HasKind, TellsStart, TellsKind, Describes}

-- what stands at a place of the mapped list is the image of what stands there
pub image : {A B : Type 0} (f : A → B) (xs : List A) (n : ℕ) (x : A) (y : B) → x ≡ slice_index_or xs n x
    → slice_get (map f xs) n ≡ Some y → f x ≡ y
image {A} {B} f xs n x y is there = by_cases (slice_get xs n) refl
  where
    by_cases : (o : Option A) → slice_get xs n ≡ o → f x ≡ y
    by_cases None none = let impossible : Some y ≡ None = sym there ∙ slice_get-map f xs n ∙ ap (option_map f) none in
        absurd cc
    by_cases (Some z) some =
        let same : x ≡ z = is ∙ get_or_from_slice_get xs n z x some in
        let mapped : Some (f z) ≡ Some y = sym (slice_get-map f xs n ∙ ap (option_map f) some) ∙ there in
        ap f same ∙ cc

-- and it stands there
pub place_of : {A B : Type 0} (f : A → B) (xs : List A) (n : ℕ) (x : A) → n < length xs → x ≡ slice_index_or xs n x
    → slice_get (map f xs) n ≡ Some (f x)
place_of f xs n x within is =
    slice_get-map f xs n ∙ ap (option_map f) (slice_get_read xs (length xs) n x refl within is)

-- as many as there are
pub number_within : {A B : Type 0} (f : A → B) (xs : List A) (ys : List B) (n : ℕ) → map f xs ≡ ys → n < length ys
    → n < length xs
number_within f xs ys n are low = let many : length (map f xs) ≡ length ys = ap length are in
    omega (arith, low, many, length-map xs f)

-- the procedure of a condition that fits is there
pub procedure_within : (P : Program) (r : kept.Condition) → IsScoped (program_of P) r
    → r.procedure < length P.procedures.items
procedure_within P r fits =
    let qs = (program_of P).procedures in
    number_within procedure_of P.procedures.items qs r.procedure refl (slice_get_within qs r.procedure fits.0 fits.1)

-- and so are all its numbers
pub all_there : (P : Program) (r : kept.Condition) (q : Procedure) → IsScoped (program_of P) r
    → q ≡ slice_index_or P.procedures.items r.procedure q
    → IsThere (program_of P) (procedure_of q) (condition_of r)
all_there P r q fits is =
    let qs = (program_of P).procedures in
    let found : slice_get qs r.procedure ≡ Some (procedure_of q) =
    place_of procedure_of P.procedures.items r.procedure q (procedure_within P r fits) is in
    let same : fits.0 ≡ procedure_of q = one_value (slice_get qs r.procedure) fits.0 (procedure_of q) fits.1 found in
    subst (λ proc. IsThere (program_of P) proc (condition_of r)) same fits.2

-- a callee is told by its name
pub tells_callee : (P : Program) (n : ℕ) (es : _) (q : Procedure) (old mid new : List ℕ)
    → HasKind (program_of P) (kind.CalleeEntry n es) → q ≡ slice_index_or P.procedures.items n q
    → mid ≡ old ++ codes "entry of " → new ≡ mid ++ q.name.name
    → TellsKind (program_of P) (kind.CalleeEntry n es) old new
tells_callee P n es q old mid new there is first last at =
    let low : n < length P.procedures.items =
    number_within procedure_of P.procedures.items (program_of P).procedures n refl there.2 in
    let found = place_of procedure_of P.procedures.items n q low is in
    let told : q.name.name ≡ name_in (slice_get (program_of P).procedures n) = sym (ap name_in found) in
    last ∙ ap (λ t. t ++ q.name.name) first ∙ append_assoc old (codes "entry of ") q.name.name
    ∙ ap (λ t. old ++ (codes "entry of " ++ t)) told

-- a loop is told by its place
pub tells_loop : (p : Procedure) (n : ℕ) (ls : List While) (w : While) (old mid new : List ℕ)
    → map loop_of ls ≡ loops_of (procedure_of p) → HasStart (procedure_of p) (start.Loop n) → w ≡ slice_index_or ls n w
    → mid ≡ old ++ codes "loop at " → new ≡ mid ++ place_text w.at → TellsStart (procedure_of p) (start.Loop n) old new
tells_loop p n ls w old mid new are there is first last =
    let low : n < length ls = number_within loop_of ls (loops_of (procedure_of p)) n are there in
    let found : slice_get (loops_of (procedure_of p)) n ≡ Some (loop_of w) =
    ap (λ ms. slice_get ms n) (sym are) ∙ place_of loop_of ls n w low is in
    let told : place_text w.at ≡ loop_text (slice_get (loops_of (procedure_of p)) n) = sym (ap loop_text found) in
    last ∙ ap (λ t. t ++ place_text w.at) first ∙ append_assoc old (codes "loop at ") (place_text w.at)
    ∙ ap (λ t. old ++ (codes "loop at " ++ t)) told

-- what is asked stands at the place of the check
asked_place : (k : CheckKind) (at : Span) → check_place (asked_at k at) ≡ at
asked_place (kind.Access x) at = refl
asked_place (kind.CalleeEntry n es) at = refl
asked_place (kind.LoopEntry n) at = refl
asked_place kind.Return at = refl
asked_place (kind.LoopEnd n) at = refl

-- the parts one after another are the description
pub described : (P : Program) (r : kept.Condition) (q : Procedure) (a b c d e f g h : List ℕ)
    → r.procedure < length P.procedures.items → q ≡ slice_index_or P.procedures.items r.procedure q → a ≡ []
    → b ≡ a ++ q.name.name → c ≡ b ++ codes " from "
    → TellsStart (procedure_of q) r.start c d → e ≡ d ++ codes ": " → TellsKind (program_of P) r.check.kind e f
    → g ≡ f ++ codes " at " → h ≡ g ++ place_text r.check.span → Describes (program_of P) r h
described P r q a b c d e f g h low is none name from begin colon ask at place =
    let starts : List ℕ = start_text (loops_of (procedure_of q)) (start_of r.start) in
    let asks : List ℕ = check_text (program_of P) (check_of r.check) in
    let named : b ≡ q.name.name = name ∙ ap (λ z. z ++ q.name.name) none in
    let begun : c ≡ q.name.name ++ codes " from " = from ∙ ap (λ z. z ++ codes " from ") named in
    let started : d ≡ q.name.name ++ codes " from " ++ starts = begin ∙ ap (λ z. z ++ starts) begun in
    let parted : e ≡ q.name.name ++ codes " from " ++ starts ++ codes ": " =
    colon ∙ ap (λ z. z ++ codes ": ") started in
    let asked : f ≡ q.name.name ++ codes " from " ++ starts ++ codes ": " ++ asks =
    ask r.check.span ∙ ap (λ z. z ++ asks) parted in
    let almost : g ≡ q.name.name ++ codes " from " ++ starts ++ codes ": " ++ asks ++ codes " at " =
    at ∙ ap (λ z. z ++ codes " at ") asked in
    let whole : h ≡ q.name.name ++ codes " from " ++ starts ++ codes ": " ++ asks ++ codes " at "
    ++ place_text r.check.span = place ∙ ap (λ z. z ++ place_text r.check.span) almost in
    let placed : h ≡ q.name.name ++ codes " from " ++ starts ++ codes ": " ++ asks ++ codes " at "
    ++ place_text (check_place (check_of r.check)) =
    whole ∙ ap (λ z. q.name.name ++ codes " from " ++ starts ++ codes ": " ++ asks ++ codes " at " ++ place_text z)
    (sym (asked_place r.check.kind r.check.span)) in
    subst (λ o. h ≡ name_in o ++ codes " from " ++ start_text (loops_in o) (start_of r.start) ++ codes ": " ++ asks
    ++ codes " at " ++ place_text (check_place (check_of r.check)))
    (sym (place_of procedure_of P.procedures.items r.procedure q low is)) placed
