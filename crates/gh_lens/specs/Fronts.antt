-- Why a text gives no admitted program.
use Rattle.std.specs.Prelude.{ℕ, ◌<◌, List, length, Option, Some, None, codes, ◌++◌}
use Rattle.std.specs.Fmt.{decimal}
use Rattle.gh_ast.specs.Plain.{Program}
use Rattle.gh_base.specs.declared.place.Span.{Span}
use Rattle.gh_draw.specs.Descriptions.{place_text}
use Rattle.gh_parse.specs.declared.error.ParseError.{ParseError}
use Rattle.gh_parse.specs.declared.error.ParseError.TheVariants as parsing
use Rattle.gh_parse.specs.Parsing.{IsParsed, IsParseRefusal}
use Rattle.gh_types.specs.declared.check.CheckError.{CheckError}
use Rattle.gh_types.specs.declared.check.CheckError.TheVariants as checking
use Rattle.gh_types.specs.Checking as types
use Rattle.gh_path.specs.declared.listing.ConditionsError.{ConditionsError}
use Rattle.gh_path.specs.declared.listing.ConditionsError.TheVariants as of_listing
use Rattle.gh_path.specs.Refusals as listing
use Rattle.gh_symb.specs.declared.limits.SymbolicError.{SymbolicError}
use Rattle.gh_symb.specs.declared.limits.SymbolicError.TheVariants as of_symbolic
use Rattle.gh_symb.specs.Limits as terms
use Rattle.gh_ast.specs.Limits.{most_bytes}
use Rattle.gh_lens.specs.declared.front.FrontError.{FrontError}
use Rattle.gh_lens.specs.declared.front.FrontError.TheVariants.{TooLong, Parse, Types, Listing, Terms}

abbrev pub of_parse : ParseError → FrontError
of_parse e = Parse e

abbrev pub of_check : CheckError → FrontError
of_check e = Types e

abbrev pub of_list : ConditionsError → FrontError
of_list e = Listing e

abbrev pub of_terms : SymbolicError → FrontError
of_terms e = Terms e

-- the cause of a refusal of a text: its length, then its parse, then the type rules and the limits on it
abbrev pub IsTextRefusal : List ℕ → FrontError → Type 0
IsTextRefusal text TooLong = most_bytes < length text
IsTextRefusal text (Parse e) = IsParseRefusal text e
IsTextRefusal text (Types e) = (P : Program) × IsParsed text P × types.IsCheckRefusal P e
IsTextRefusal text (Listing e) = ⊥
IsTextRefusal text (Terms e) = ⊥

-- the cause of a refusal of a typed program: the limits on its conditions
abbrev pub IsUnadmitted : Program → FrontError → Type 0
IsUnadmitted P TooLong = ⊥
IsUnadmitted P (Parse e) = ⊥
IsUnadmitted P (Types e) = ⊥
IsUnadmitted P (Listing e) = listing.IsConditionsRefusal P e
IsUnadmitted P (Terms e) = terms.IsAdmitRefusal P e

-- `WHAT at L:C`
abbrev pub placed : List ℕ → Span → List ℕ
placed what at = what ++ codes " at " ++ place_text at

-- why a text isn't parsed, in words; none where memory was short
abbrev pub parse_cause : ParseError → Option (List ℕ)
parse_cause (parsing.Byte n) =
    Some (codes "the byte at offset " ++ decimal n ++ codes " is no character of the language")
parse_cause (parsing.Deep at) = Some (placed (codes "brackets nest too deep") at)
parse_cause (parsing.Syntax at) = Some (placed (codes "the syntax is wrong") at)
parse_cause parsing.OutOfMemory = None

-- why a program isn't checked, in words; none where memory was short
abbrev pub check_cause : CheckError → Option (List ℕ)
check_cause (checking.TypeError n at) = Some (placed (codes "a type rule is broken") at)
check_cause (checking.Limit l) = Some (placed (codes "a limit is passed") l.span)
check_cause checking.OutOfMemory = None

-- why a text gives no admitted program, in words; none where memory was short
abbrev pub cause : FrontError → Option (List ℕ)
cause TooLong = Some (codes "the text is too long")
cause (Parse e) = parse_cause e
cause (Types e) = check_cause e
cause (Listing (of_listing.Limit l)) = Some (placed (codes "a limit is passed") l.span)
cause (Listing of_listing.OutOfMemory) = None
cause (Terms (of_symbolic.Limit l)) = Some (placed (codes "a limit is passed") l.span)
cause (Terms of_symbolic.OutOfMemory) = None
