-- A report that ends in a drawing is a file that has it.
use Rattle.std.specs.Prelude.{◌≡◌, ℕ, List, [], ◌∷◌, ◌++◌, map, All}
use Rattle.std.specs.List.{flat_map}
use Rattle.std.proofs.Common.{sym, ap}
use Rattle.std.proofs.lemmas.List.{append-nil}
use Rattle.std.proofs.lemmas.List.Elements.{All-cons, All-nil}
use Rattle.gh_ast.specs.Grammar.{Spells}
use Rattle.gh_ast.specs.Plain.{Program}
use Rattle.gh_ast.specs.Programs.{variable_names}
use Rattle.gh_ast.specs.Rules.{IsTyped}
use Rattle.gh_path.specs.Conditions.{Condition, IsConditionAt}
use Rattle.gh_trace.specs.Kept.{state_of, drawn}
use Rattle.gh_trace.specs.Replay.{IsDrawnCounterexample}
use Rattle.gh_trace.specs.declared.state.State.{State}
use Rattle.gh_draw.specs.Descriptions.{description}
use Rattle.gh_draw.specs.Drawings.{line, drawing}
use Rattle.gh_draw.specs.Drawn.{drawing_text, IsValue, HasValues, IsDrawnFor, IsOtherLine, IsFileOf}
use Rattle.gh_draw.proofs.DescribedLines.{description_is_other}
use Rattle.gh_draw.proofs.Refuted.{drawn_of_refuted, text_of_refuted}
use Rattle.gh_draw.proofs.Texts.{numbered_there, drawing_told}

-- after other lines
pub report_is_file : (P : Program) (lines : List (List ℕ)) (n : ℕ) (xs : List State) → IsTyped P → All IsOtherLine lines
    → (d : IsDrawnFor P n xs)
    → IsFileOf P (flat_map line lines ++ drawing n (variable_names d.procedure) (map state_of xs)) n xs
report_is_file P lines n xs typed others d =
    record {
      skipped = lines;
      others = others;
      whole = ap (λ t. flat_map line lines ++ t) (sym (drawing_told P n xs typed d));
      drawn = d;
    }

two_lines : (a b d e : List ℕ) → d ≡ e → (a ++ b) ++ e ≡ (a ++ (b ++ [])) ++ d
two_lines a b d e same = rw same (simp append-nil)

-- after a line and the description
pub report_of_refuted : (source : List ℕ) (P : Program) (first : List ℕ) (n : ℕ) (c : Condition) (xs : List State)
    → Spells source P → IsTyped P → IsOtherLine first → IsConditionAt P n c → IsValue n
    → (r : IsDrawnCounterexample P c (map drawn xs)) → All HasValues xs
    → IsFileOf P (line first ++ line (description P c) ++ drawing n (variable_names r.procedure) (map state_of xs)) n xs
report_of_refuted source P first n c xs spells typed other at fits r values =
    let d = drawn_of_refuted P n c xs at fits r values in
    let second = description_is_other source P c spells (numbered_there P n c at.1) in
    record {
      skipped = first ∷ description P c ∷ [];
      others =
          All-cons IsOtherLine first (description P c ∷ []) other
          (All-cons IsOtherLine (description P c) [] second (All-nil IsOtherLine));
      whole =
          two_lines (line first) (line (description P c)) (drawing_text n xs)
          (drawing n (variable_names r.procedure) (map state_of xs))
          (text_of_refuted P n c xs typed r values);
      drawn = d;
    }
