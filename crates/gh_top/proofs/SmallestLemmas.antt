-- From a smallest counterexample to what is answered for it.
use Rattle.std.proofs.Common.{◌≡◌, ℕ, List, [], ◌∷◌, ◌++◌, length, map, Option, Some, None, refl, sym, ap, subst}
use Rattle.std.proofs.Common.{append_assoc, ◌∙◌}
use Rattle.std.specs.Prelude.{codes, All, IfSome}
use Rattle.gh_ast.specs.Plain.{Procedure, Program}
use Rattle.gh_ast.specs.Rules.{IsTyped}
use Rattle.gh_path.specs.Answers.{IsNumbered}
use Rattle.gh_path.specs.Conditions.{Condition, IsOf, conditions}
use Rattle.gh_path.specs.Kept.{condition_of}
use Rattle.gh_path.specs.declared.condition.Condition as kept
use Rattle.gh_symb.specs.Symbolic.{symbolic_of}
use Rattle.gh_symb.specs.Formulas.{problem}
use Rattle.gh_trace.specs.Kept.{state_of, drawn}
use Rattle.gh_trace.specs.declared.state.State.{State}
use Rattle.gh_log.specs.declared.lines.Section.{Section}
use Rattle.gh_log.specs.Spelled.{IsSpelledLine}
use Rattle.gh_trace.specs.Refuted.{ShowsFirst}
use Rattle.gh_trace.specs.Validity.{ListedAreValid}
use Rattle.gh_trace.proofs.FirstRefuted.{kept_first, numbered_one, condition_one}
use Rattle.gh_draw.specs.Descriptions.{description}
use Rattle.gh_draw.specs.Drawings.{line}
use Rattle.gh_draw.specs.Drawn.{drawing_text, HasValues}
use Rattle.gh_draw.specs.Kept.{Describes}
use Rattle.gh_small.specs.Models.{IsLowest}
use Rattle.gh_small.specs.Smallest.{first_cells, IsLeast, IsSmallest}
use Rattle.gh_small.specs.declared.found.Smallest.{Smallest}
use Rattle.gh_top.proofs.DecidingLemmas.{alone_spelled}
use Rattle.gh_top.proofs.FirstLemmas.{first_reported, first_drawn}
use Rattle.gh_top.specs.Headline.{smallest_verified, smallest_refuted}
use Rattle.gh_top.specs.Lines.{verified_line, smallest_line}
use Rattle.gh_top.specs.Replies.{Replies}
use Rattle.gh_top.specs.Smallests.{cells_at_first, IsBoundText, no_cell, some_cells, section_text, IsSmallestReport}
use Rattle.gh_top.specs.declared.words.Request.TheVariants as request
use Rattle.gh_top.specs.declared.status.Status.{Status}
use Rattle.gh_top.specs.declared.status.Status.TheVariants.{Verified, Refuted}

lines_spelled : (P : Program) (proc : Procedure) (c : Condition) (cells : ℕ) (o : Option Section)
    → IsLowest (problem (symbolic_of P proc c)) cells o
    → IfSome o (λ s. All (IsSpelledLine 2) s.lines)
lines_spelled P proc c cells None h = tt
lines_spelled P proc c cells (Some s) h = h.1.writable.spelled

-- its section can be spelled
pub section_spelled : (P : Program) (k : ℕ) (r : kept.Condition) (s : Smallest) → IsNumbered P k (Some r)
    → IsSmallest P r s → IfSome s.section (λ x. All (IsSpelledLine 2) x.lines)
section_spelled P k r s n is =
    let one = condition_one P r (numbered_one P k r n) in
    lines_spelled P one.procedure (condition_of r) s.cells s.section (is.lowest one.procedure one.of)

bound_told : (P : Program) (proc : Procedure) (c : Condition) (cells : ℕ) (o : Option Section)
    → IsLowest (problem (symbolic_of P proc c)) cells o → IsBoundText P proc c cells (section_text o)
bound_told P proc c cells None e = subst (λ n. IsBoundText P proc c n []) (sym e) no_cell
bound_told P proc c cells (Some s) h =
    some_cells s.lines h.0 h.1.valid (alone_spelled s.lines h.1.writable.spelled)

same_cells : (ss : List State) → first_cells (map drawn ss) ≡ cells_at_first (map state_of ss)
same_cells [] = refl
same_cells (s ∷ ss) = refl

assembled : (front d e shown bound first second third fourth : List ℕ) → first ≡ front ++ d → second ≡ first ++ e
    → third ≡ second ++ shown → fourth ≡ third ++ bound → fourth ≡ (front ++ (d ++ e) ++ shown) ++ bound
assembled front d e shown bound first second third fourth a b c f = rw (f, c, b, a) (simp append_assoc)

-- the pieces of the report make it up
pub reported : (P : Program) (k n : ℕ) (s : Smallest) (r : kept.Condition)
    (front d shown bound first second third fourth : List ℕ) → IsTyped P → ShowsFirst P k s.trace
    → IsNumbered P k (Some r) → IsSmallest P r s
    → All HasValues s.trace.states.items → n ≡ length (conditions P)
    → front ≡ smallest_line k n s.cells
    → Describes P r d → shown ≡ drawing_text k s.trace.states.items → bound ≡ section_text s.section
    → first ≡ front ++ d → second ≡ first ++ codes "\n" → third ≡ second ++ shown → fourth ≡ third ++ bound
    → IsSmallestReport P fourth
reported P k n s r front d shown bound first second third fourth typed f there is values count begun described told_by
    bounded a b e g =
    let c : Condition = f.condition in
    let same : condition_of r ≡ c = kept_first P k s.trace r f there in
    let refuted = first_reported P k s.trace typed f values in
    let text : d ≡ description P c = described ∙ ap (description P) same in
    let proc : Procedure = refuted.procedure in
    let here : IsOf P (condition_of r) proc = subst (λ (b : Condition). IsOf P b proc) (sym same) refuted.of in
    let lowest : IsLowest (problem (symbolic_of P proc c)) s.cells s.section =
    subst (λ (b : Condition). IsLowest (problem (symbolic_of P proc b)) s.cells s.section) same
    (is.lowest proc here) in
    record {
      number = k;
      cells = s.cells;
      condition = c;
      states = map state_of s.trace.states.items;
      bound = bound;
      first = refuted;
      count = is.count ∙ same_cells s.trace.states.items;
      least = subst (λ (b : Condition). IsLeast P b s.cells) same is.least;
      shown = subst (IsBoundText P proc c s.cells) (sym bounded) (bound_told P proc c s.cells s.section lowest);
      text_is =
          assembled front d (codes "\n") shown bound first second third fourth a b e g
          ∙ ap (λ z. (z ++ (d ++ codes "\n") ++ shown) ++ bound) begun
          ∙ ap (λ m. (smallest_line k m s.cells ++ (d ++ codes "\n") ++ shown) ++ bound) count
          ∙ ap (λ z. (smallest_line k (length (conditions P)) s.cells ++ (z ++ codes "\n") ++ shown) ++ bound) text
          ∙ ap (λ z. (smallest_line k (length (conditions P)) s.cells ++ line (description P c) ++ z) ++ bound)
          (told_by ∙ first_drawn P k s.trace typed f values);
    }

pub smallest_valid : (P : Program) (n : ℕ) (s : Status) (u : List ℕ) → ListedAreValid P → n ≡ length (conditions P)
    → s ≡ Verified
    → u ≡ verified_line n → (file : List ℕ) → Replies (request.Smallest file) P s u
smallest_valid P n s u v count a b file words files asks = rw (a, b, count) (smallest_verified asks v)

pub smallest_fails : (P : Program) (s : Status) (u : List ℕ) → s ≡ Refuted → IsSmallestReport P u → (file : List ℕ)
    → Replies (request.Smallest file) P s u
smallest_fails P s u a f file words files asks = rw a (smallest_refuted asks f)
