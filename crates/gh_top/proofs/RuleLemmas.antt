-- A broken rule has the number of its rule.
use Rattle.std.proofs.Common.{◌≡◌, ℕ, refl}
use Rattle.gh_base.specs.declared.place.Span.{Span}
use Rattle.gh_ast.specs.Plain.{Program}
use Rattle.gh_ast.specs.Questions.{Question}
use Rattle.gh_ast.specs.Rules as text
use Rattle.gh_ast.specs.Rules.{unknown_name, duplicate_name, assign_to_parameter, wrong_count, return_in_loop}
use Rattle.gh_ast.specs.Rules.{unknown_procedure, second_link, data_field, name_out_of_contract, repeated_result}
use Rattle.gh_ast.specs.Rules.{no_body, no_link}
use Rattle.gh_entail.specs.Rules as asked
use Rattle.gh_top.specs.Rules.{rule_number, rule_of}

pub numbered : (P : Program) (n : ℕ) (s : Span) → text.Broken P n s → rule_number (rule_of n) ≡ n
numbered P n s (unknown_name is why) = rw is refl
numbered P n s (duplicate_name is why) = rw is refl
numbered P n s (assign_to_parameter is why) = rw is refl
numbered P n s (wrong_count is why) = rw is refl
numbered P n s (return_in_loop is why) = rw is refl
numbered P n s (unknown_procedure is why) = rw is refl
numbered P n s (second_link is why) = rw is refl
numbered P n s (data_field is why) = rw is refl
numbered P n s (name_out_of_contract is why) = rw is refl
numbered P n s (repeated_result is why) = rw is refl
numbered P n s (no_body is why) = rw is refl
numbered P n s (no_link is why) = rw is refl

pub first_numbered : (P : Program) (n : ℕ) (s : Span) → text.IsFirstBroken P n s
    → text.IsFirstBroken P (rule_number (rule_of n)) s
first_numbered P n s first = rw (numbered P n s first.here) first

pub asked_numbered : (q : Question) (n : ℕ) (s : Span) → asked.Broken q n s → rule_number (rule_of n) ≡ n
asked_numbered q n s (asked.unknown_name is why) = rw is refl
asked_numbered q n s (asked.duplicate_name is why) = rw is refl

pub first_asked : (q : Question) (n : ℕ) (s : Span) → asked.IsFirstBroken q n s
    → asked.IsFirstBroken q (rule_number (rule_of n)) s
first_asked q n s first = rw (asked_numbered q n s first.here) first
