-- A text that is refused has one first refusal.
--
-- Each kind of refusal is a case of a chain (`IsFileCase`, `IsTextCase`): what comes later in the chain holds only
-- where nothing earlier does.
use Rattle.std.proofs.Common.{◌≡◌, inl, inr, ◌∙◌, ℕ, ◌+◌, ◌<◌, ◌≤◌, List, [], ◌∷◌, length, refl, sym, ap, subst, arith}
use Rattle.std.specs.Prelude.{IsTrue, Option, Some, None, slice_index_or, take, true}
use Rattle.std.proofs.lemmas.Bool.{cases_lt}
use Rattle.std.proofs.lemmas.List.{get_or_default, get_or-take}
use Rattle.std.proofs.lemmas.List.Elements.{All-get_or}
use Rattle.std.proofs.lemmas.Option.{slice_get_within, get_or_from_slice_get}
use Rattle.std.proofs.lemmas.List.{length-take}
use Rattle.gh_base.specs.declared.place.Span.{Span}
use Rattle.gh_ast.proofs.OnePlace.{one_place}
use Rattle.gh_ast.specs.Limits.{IsLimit, of_procedures, of_variables, of_atoms, ProceduresPassed, VariablesPassed}
use Rattle.gh_ast.specs.Limits.{AtomsPassed, HasManyVariables, HasManyAtomsSomewhere, atom_counts, reported}
use Rattle.gh_ast.specs.Lists.{IsFirstWith}
use Rattle.gh_ast.specs.Occurrences.{variables_of}
use Rattle.gh_ast.specs.Grammar.{Spells as SpellsText}
use Rattle.gh_ast.specs.Place.{IsPlace, IsProgram}
use Rattle.gh_ast.specs.Plain.{Procedure, Program}
use Rattle.gh_ast.specs.QuestionGrammar.{IsQuestion, Poses}
use Rattle.gh_ast.specs.Questions.{Question}
use Rattle.gh_ast.specs.Rules.{Before, GoesFirst, IsFirstError, Broken}
use Rattle.gh_ast.specs.Tokens.{Token, cleared, is_character, place_of, IsFirstByte, IsFirstDeep}
use Rattle.gh_ast.specs.declared.typed.Limit.{Limit}
use Rattle.gh_entail.specs.Limits as question_limits
use Rattle.gh_entail.specs.Rules as question_rules
use Rattle.gh_path.specs.Admitted.{Passed, IsFirstLimit, of_text, paths, steps, terms, versions}
use Rattle.gh_top.proofs.HeadlineLemmas.{one_spelled}
use Rattle.gh_top.proofs.OneStatus.{a_text, one_posed, text_limit, passed_has, few_variables, first_has}
use Rattle.gh_top.specs.Entails.{IsQuestionRefused}
use Rattle.gh_ast.specs.Limits.{most_bytes}
use Rattle.gh_top.specs.Refusals.{IsReadable, IsProgramRefused}
use Rattle.gh_top.specs.Rules.{rule_number, rule_of}
use Rattle.gh_top.specs.declared.refusal.Refusal.{Refusal}
use Rattle.gh_top.specs.declared.refusal.Refusal.TheVariants.{Absent, TooLong, Byte, Deep, Syntax, TypeError}
use Rattle.gh_top.specs.declared.refusal.Refusal.TheVariants.{Limit as LimitPassed}
use Rattle.gh_top.specs.declared.rule.Rule.{Rule}
use Rattle.gh_top.specs.declared.rule.Rule.TheVariants.{UnknownName, DuplicateName, AssignToParameter, WrongCount}
use Rattle.gh_top.specs.declared.rule.Rule.TheVariants.{ReturnInLoop, UnknownProcedure, SecondLink, DataField}
use Rattle.gh_top.specs.declared.rule.Rule.TheVariants.{NameOutOfContract, RepeatedResult, NoBody, NoLink}

-- two numbers of which neither is less are one

pub neither_less : (j k : ℕ) → (j < k → ⊥) → (k < j → ⊥) → j ≡ k
neither_less j k f g = elim (cases_lt j k) as (λ _. j ≡ k) [
  | inl lt ↦ absurd (f lt)
  | inr ge ↦ elim (cases_lt k j) as (λ _. j ≡ k) [ inl gt ↦ absurd (g gt) | inr le ↦ omega arith ]
]

-- the first byte, and the first bracket

byte_later : (text : List ℕ) (j k : ℕ) → IsFirstByte text j → IsFirstByte text k → j < k → ⊥
byte_later text j k a b lt =
    let ts = cleared text in
    let within = slice_get_within ts j a.byte a.here in
    let known : IsTrue (is_character (slice_index_or (take k ts) j 0)) =
    All-get_or (λ c. IsTrue (is_character c)) (take k ts) j 0 (omega (arith, lt, within, length-take k ts))
    b.before in
    let same : slice_index_or (take k ts) j 0 ≡ a.byte =
    get_or-take k ts j 0 lt ∙ get_or_from_slice_get ts j a.byte 0 a.here in
    let here : is_character a.byte ≡ true = subst (λ c. is_character c ≡ true) same known in
    let strange = a.strange in
    absurd cc

one_byte : (text : List ℕ) (j k : ℕ) → IsFirstByte text j → IsFirstByte text k → j ≡ k
one_byte text j k a b = neither_less j k (byte_later text j k a b) (byte_later text k j b a)

one_deep : (text : List ℕ) (j k : ℕ) → IsFirstDeep text j → IsFirstDeep text k → j ≡ k
one_deep text j k a b =
    neither_less j k (λ lt. b.before (j + 1) (omega (arith, lt)) a.deep)
    (λ lt. a.before (k + 1) (omega (arith, lt)) b.deep)

-- the first error

one_way : (s t : Span) → Before s t → Before t s → ⊥
one_way s t (inl a) (inl b) = absurd (omega (arith, a, b))
one_way s t (inl a) (inr b) = absurd (omega (arith, a, b.0))
one_way s t (inr a) (inl b) = absurd (omega (arith, a.0, b))
one_way s t (inr a) (inr b) = absurd (omega (arith, a.1, b.1))

one_order : (m n : ℕ) (s t : Span) → GoesFirst m s n t → GoesFirst n t m s → (m ≡ n) × (s ≡ t)
one_order m n s t (inl a) (inl b) = absurd (one_way s t a b)
one_order m n s t (inl a) (inr b) =
    let back : Before t s = subst (λ p. Before p s) (sym b.0) (subst (λ p. Before s p) b.0 a) in
    absurd (one_way s t a back)
one_order m n s t (inr a) (inl b) =
    let back : Before s t = subst (λ p. Before p t) (sym a.0) (subst (λ p. Before t p) a.0 b) in
    absurd (one_way s t back b)
one_order m n s t (inr a) (inr b) = (omega (arith, a.1, b.1), a.0)

one_error : (E : ℕ → Span → Type 0) (m n : ℕ) (s t : Span) → IsFirstError E m s → IsFirstError E n t → (m ≡ n) × (s ≡ t)
one_error E m n s t a b = one_order m n s t (a.first n t b.here) (b.first m s a.here)

rule_back : (r : Rule) → rule_of (rule_number r) ≡ r
rule_back UnknownName = refl
rule_back DuplicateName = refl
rule_back AssignToParameter = refl
rule_back WrongCount = refl
rule_back ReturnInLoop = refl
rule_back UnknownProcedure = refl
rule_back SecondLink = refl
rule_back DataField = refl
rule_back NameOutOfContract = refl
rule_back RepeatedResult = refl
rule_back NoBody = refl
rule_back NoLink = refl

one_type_error : (E : ℕ → Span → Type 0) (r q : Rule) (s t : Span) → IsFirstError E (rule_number r) s
    → IsFirstError E (rule_number q) t → TypeError r s ≡ TypeError q t
one_type_error E r q s t a b =
    let same = one_error E (rule_number r) (rule_number q) s t a b in
    let rules : r ≡ q = sym (rule_back r) ∙ ap rule_of same.0 ∙ rule_back q in
    ap (λ k. TypeError k s) rules ∙ ap (λ p. TypeError q p) same.1

-- the first of a list

first_later : {X : Type 0} (Q : X → Type 0) (xs : List X) (x y : X) → (a : IsFirstWith Q xs x)
    → (b : IsFirstWith Q xs y) → a.place < b.place → ⊥
first_later Q xs x y a b lt = b.earlier a.place x lt (subst Q (sym a.element) a.holds)

pub one_first_with : {X : Type 0} (Q : X → Type 0) (xs : List X) (x y : X) → IsFirstWith Q xs x → IsFirstWith Q xs y
    → x ≡ y
one_first_with Q xs x y a b =
    let place : a.place ≡ b.place =
    neither_less a.place b.place (first_later Q xs x y a b) (first_later Q xs y x b a) in
    sym a.element ∙ get_or_default xs a.place x y a.within ∙ ap (λ k. slice_index_or xs k y) place ∙ b.element

-- limits

limits_are_one : (l m : Limit) → l.kind ≡ m.kind → l.span ≡ m.span → l.count ≡ m.count → l ≡ m
limits_are_one l m kind span count = λ i. record { kind = kind i; span = span i; count = count i }

some_procedure : (ps : List Procedure) → 256 < length ps → Procedure
some_procedure [] many = absurd (omega (arith, many))
some_procedure (p ∷ ps) many = p

one_procedures : (ps : List Procedure) (l m : Limit) → ProceduresPassed ps l → ProceduresPassed ps m → l ≡ m
one_procedures ps l m a b =
    let d = some_procedure ps a.passed in
    limits_are_one l m (a.kind ∙ sym b.kind) (sym (a.span d) ∙ b.span d) (a.count ∙ sym b.count)

one_variables : (ps : List Procedure) (l m : Limit) → VariablesPassed ps l → VariablesPassed ps m → l ≡ m
one_variables ps l m a b =
    let same = one_first_with HasManyVariables ps a.procedure b.procedure a.first b.first in
    limits_are_one l m (a.kind ∙ sym b.kind) (sym a.span ∙ ap (λ p. p.name.span) same ∙ b.span)
    (a.count ∙ ap (λ p. reported (length (variables_of p))) same ∙ sym b.count)

one_atoms : (ps : List Procedure) (l m : Limit) → AtomsPassed ps l → AtomsPassed ps m → l ≡ m
one_atoms ps l m a b =
    let same = one_first_with HasManyAtomsSomewhere ps a.procedure b.procedure a.first b.first in
    let there : IsFirstWith (λ n. 32 < n) (atom_counts b.procedure) a.number =
    subst (λ p. IsFirstWith (λ n. 32 < n) (atom_counts p) a.number) same a.first_there in
    let number = one_first_with (λ n. 32 < n) (atom_counts b.procedure) a.number b.number there b.first_there in
    limits_are_one l m (a.kind ∙ sym b.kind) (sym a.span ∙ ap (λ p. p.name.span) same ∙ b.span)
    (a.count ∙ ap reported number ∙ sym b.count)

one_in_text : (P : Program) (l m : Limit) → IsLimit P l → IsLimit P m → l ≡ m
one_in_text P l m (of_procedures a) (of_procedures b) = one_procedures P.procedures l m a b
one_in_text P l m (of_procedures a) (of_variables few b) = let many = a.passed in absurd (omega (arith, few, many))
one_in_text P l m (of_procedures a) (of_atoms few fewer b) = let many = a.passed in absurd (omega (arith, few, many))
one_in_text P l m (of_variables few a) (of_procedures b) = let many = b.passed in absurd (omega (arith, few, many))
one_in_text P l m (of_variables few a) (of_variables less b) = one_variables P.procedures l m a b
one_in_text P l m (of_variables few a) (of_atoms less fewer b) =
    absurd (first_has P HasManyVariables a.procedure (few_variables P fewer) a.first)
one_in_text P l m (of_atoms few fewer a) (of_procedures b) = let many = b.passed in absurd (omega (arith, few, many))
one_in_text P l m (of_atoms few fewer a) (of_variables less b) =
    absurd (first_has P HasManyVariables b.procedure (few_variables P fewer) b.first)
one_in_text P l m (of_atoms few fewer a) (of_atoms less others b) = one_atoms P.procedures l m a b

one_passed : (P : Program) (Q : Procedure → Type 0) (kind limit : ℕ) (l m : Limit) → Passed P Q kind limit l
    → Passed P Q kind limit m → l ≡ m
one_passed P Q kind limit l m a b =
    let same = one_first_with Q P.procedures a.procedure b.procedure a.first b.first in
    limits_are_one l m (a.kind_is ∙ sym b.kind_is) (a.span ∙ ap (λ proc. proc.name.span) same ∙ sym b.span)
    (a.count ∙ sym b.count)

pub one_limit : (P : Program) (l m : Limit) → IsFirstLimit P l → IsFirstLimit P m → l ≡ m
one_limit P l m (of_text a) (of_text b) = one_in_text P l m a b
one_limit P l m (of_text a) (paths keeps b) = absurd (text_limit P l keeps a)
one_limit P l m (of_text a) (steps keeps none b) = absurd (text_limit P l keeps a)
one_limit P l m (of_text a) (terms keeps none fewer b) = absurd (text_limit P l keeps a)
one_limit P l m (of_text a) (versions keeps none fewer never b) = absurd (text_limit P l keeps a)
one_limit P l m (paths keeps a) (of_text b) = absurd (text_limit P m keeps b)
one_limit P l m (paths keeps a) (paths too b) = one_passed P _ 4 _ l m a b
one_limit P l m (paths keeps a) (steps too none b) = absurd (passed_has P _ 4 _ l none a)
one_limit P l m (paths keeps a) (terms too none fewer b) = absurd (passed_has P _ 4 _ l none a)
one_limit P l m (paths keeps a) (versions too none fewer never b) = absurd (passed_has P _ 4 _ l none a)
one_limit P l m (steps keeps none a) (of_text b) = absurd (text_limit P m keeps b)
one_limit P l m (steps keeps none a) (paths too b) = absurd (passed_has P _ 4 _ m none b)
one_limit P l m (steps keeps none a) (steps too lacks b) = one_passed P _ 5 _ l m a b
one_limit P l m (steps keeps none a) (terms too lacks fewer b) = absurd (passed_has P _ 5 _ l fewer a)
one_limit P l m (steps keeps none a) (versions too lacks fewer never b) = absurd (passed_has P _ 5 _ l fewer a)
one_limit P l m (terms keeps none fewer a) (of_text b) = absurd (text_limit P m keeps b)
one_limit P l m (terms keeps none fewer a) (paths too b) = absurd (passed_has P _ 4 _ m none b)
one_limit P l m (terms keeps none fewer a) (steps too lacks b) = absurd (passed_has P _ 5 _ m fewer b)
one_limit P l m (terms keeps none fewer a) (terms too lacks less b) = one_passed P _ 6 _ l m a b
one_limit P l m (terms keeps none fewer a) (versions too lacks less never b) = absurd (passed_has P _ 6 _ l never a)
one_limit P l m (versions keeps none fewer never a) (of_text b) = absurd (text_limit P m keeps b)
one_limit P l m (versions keeps none fewer never a) (paths too b) = absurd (passed_has P _ 4 _ m none b)
one_limit P l m (versions keeps none fewer never a) (steps too lacks b) = absurd (passed_has P _ 5 _ m fewer b)
one_limit P l m (versions keeps none fewer never a) (terms too lacks less b) = absurd (passed_has P _ 6 _ m never b)
one_limit P l m (versions keeps none fewer never a) (versions too lacks less nor b) = one_passed P _ 7 _ l m a b

one_question_limit : (q : Question) (l m : Limit) → question_limits.IsLimit q l → question_limits.IsLimit q m → l ≡ m
one_question_limit q l m (question_limits.of_variables many e) (question_limits.of_variables more f) = e ∙ sym f
one_question_limit q l m (question_limits.of_variables many e) (question_limits.of_atoms few more f) =
    absurd (omega (arith, many, few))
one_question_limit q l m (question_limits.of_variables many e) (question_limits.of_terms keeps more f) =
    let few = keeps.0 in absurd (omega (arith, many, few))
one_question_limit q l m (question_limits.of_atoms few many e) (question_limits.of_variables more f) =
    absurd (omega (arith, more, few))
one_question_limit q l m (question_limits.of_atoms few many e) (question_limits.of_atoms less more f) = e ∙ sym f
one_question_limit q l m (question_limits.of_atoms few many e) (question_limits.of_terms keeps more f) =
    let fewer = keeps.1 in absurd (omega (arith, many, fewer))
one_question_limit q l m (question_limits.of_terms keeps many e) (question_limits.of_variables more f) =
    let few = keeps.0 in absurd (omega (arith, more, few))
one_question_limit q l m (question_limits.of_terms keeps many e) (question_limits.of_atoms fewer more f) =
    let less = keeps.1 in absurd (omega (arith, more, less))
one_question_limit q l m (question_limits.of_terms keeps many e) (question_limits.of_terms fewer more f) = e ∙ sym f

-- files: absent, too long, or of a text that is short enough

pub data IsFileCase {X : Type 0} (most : ℕ) (bytes : Option (List ℕ)) (absent long : X) (R : List ℕ → X → Type 0)
    (x : X) : Type 0 where
  no_file : bytes ≡ None → x ≡ absent → IsFileCase most bytes absent long R x
  long_file : (text : List ℕ) → bytes ≡ Some text → most < length text → x ≡ long
      → IsFileCase most bytes absent long R x
  short_file : (text : List ℕ) → bytes ≡ Some text → length text ≤ most → R text x
      → IsFileCase most bytes absent long R x

pub same_text : (bytes : Option (List ℕ)) (t u : List ℕ) → bytes ≡ Some t → bytes ≡ Some u → t ≡ u
same_text bytes t u e f = a_text u t (sym e ∙ f)

long_short : (most : ℕ) (bytes : Option (List ℕ)) (t u : List ℕ) → bytes ≡ Some t → bytes ≡ Some u → most < length t
    → length u ≤ most → ⊥
long_short most bytes t u e f long short =
    let here : most < length u = subst (λ x. most < length x) (same_text bytes t u e f) long in
    absurd (omega (arith, here, short))

pub one_file_case : {X : Type 0} (most : ℕ) (bytes : Option (List ℕ)) (absent long : X) (R : List ℕ → X → Type 0)
    → ((text : List ℕ) (x y : X) → R text x → R text y → x ≡ y) → (x y : X)
    → IsFileCase most bytes absent long R x → IsFileCase most bytes absent long R y → x ≡ y
one_file_case most bytes absent long R one x y (no_file e f) (no_file g h) = f ∙ sym h
one_file_case most bytes absent long R one x y (no_file e f) (long_file u g more h) = absurd cc
one_file_case most bytes absent long R one x y (no_file e f) (short_file u g less s) = absurd cc
one_file_case most bytes absent long R one x y (long_file t e many f) (no_file g h) = absurd cc
one_file_case most bytes absent long R one x y (long_file t e many f) (long_file u g more h) = f ∙ sym h
one_file_case most bytes absent long R one x y (long_file t e many f) (short_file u g less s) =
    absurd (long_short most bytes t u e g many less)
one_file_case most bytes absent long R one x y (short_file t e few r) (no_file g h) = absurd cc
one_file_case most bytes absent long R one x y (short_file t e few r) (long_file u g more h) =
    absurd (long_short most bytes u t g e more few)
one_file_case most bytes absent long R one x y (short_file t e few r) (short_file u g less s) =
    one u x y (subst (λ z. R z x) (same_text bytes t u e g) r) s

-- texts that spell something of a type Y: a byte, a bracket, no sentence, an error, a limit

data IsTextCase {Y : Type 0} (S : List Token → Type 0) (Spells : List ℕ → Y → Type 0) (E : Y → ℕ → Span → Type 0)
    (L : Y → Limit → Type 0) (text : List ℕ) (x : Refusal) : Type 0 where
  at_byte : (k : ℕ) → x ≡ Byte k → IsFirstByte text k → IsTextCase S Spells E L text x
  at_deep : (k : ℕ) → x ≡ Deep (place_of text k) → ((j : ℕ) → IsFirstByte text j → ⊥) → IsFirstDeep text k
      → IsTextCase S Spells E L text x
  at_syntax : (p : Span) → x ≡ Syntax p → IsReadable text → ((y : Y) → Spells text y → ⊥) → IsPlace S text p
      → IsTextCase S Spells E L text x
  at_error : (y : Y) (r : Rule) (p : Span) → x ≡ TypeError r p → IsReadable text → Spells text y
      → IsFirstError (E y) (rule_number r) p → IsTextCase S Spells E L text x
  at_limit : (y : Y) (l : Limit) → x ≡ LimitPassed l → IsReadable text → Spells text y
      → ((n : ℕ) (s : Span) → E y n s → ⊥) → L y l → IsTextCase S Spells E L text x

module _ {Y : Type 0} (S : List Token → Type 0) (Spells : List ℕ → Y → Type 0) (E : Y → ℕ → Span → Type 0)
    (L : Y → Limit → Type 0)
    (one : (text : List ℕ) (y z : Y) → Spells text y → Spells text z → y ≡ z)
    (one_of : (y : Y) (l m : Limit) → L y l → L y m → l ≡ m) where
  abbrev Case : List ℕ → Refusal → Type 0
  Case text x = IsTextCase S Spells E L text x

  one_text_case : (text : List ℕ) (x w : Refusal) → Case text x → Case text w → x ≡ w
  one_text_case text x w (at_byte j e a) (at_byte k f b) = e ∙ ap Byte (one_byte text j k a b) ∙ sym f
  one_text_case text x w (at_byte j e a) (at_deep k f lacks b) = absurd (lacks j a)
  one_text_case text x w (at_byte j e a) (at_syntax p f b none q) = absurd (b.characters j a)
  one_text_case text x w (at_byte j e a) (at_error z r p f b s q) = absurd (b.characters j a)
  one_text_case text x w (at_byte j e a) (at_limit z l f b s t q) = absurd (b.characters j a)
  one_text_case text x w (at_deep j e lacks a) (at_byte k f b) = absurd (lacks k b)
  one_text_case text x w (at_deep j e lacks a) (at_deep k f nor b) =
      e ∙ ap (λ k. Deep (place_of text k)) (one_deep text j k a b) ∙ sym f
  one_text_case text x w (at_deep j e lacks a) (at_syntax p f b none q) = absurd (b.shallow j a)
  one_text_case text x w (at_deep j e lacks a) (at_error z r p f b s q) = absurd (b.shallow j a)
  one_text_case text x w (at_deep j e lacks a) (at_limit z l f b s t q) = absurd (b.shallow j a)
  one_text_case text x w (at_syntax p e a none q) (at_byte k f b) = absurd (a.characters k b)
  one_text_case text x w (at_syntax p e a none q) (at_deep k f nor b) = absurd (a.shallow k b)
  one_text_case text x w (at_syntax p e a none q) (at_syntax o f b never r) =
      e ∙ ap Syntax (one_place S text p o q r) ∙ sym f
  one_text_case text x w (at_syntax p e a none q) (at_error z r o f b s t) = absurd (none z s)
  one_text_case text x w (at_syntax p e a none q) (at_limit z l f b s t u) = absurd (none z s)
  one_text_case text x w (at_error y r p e a s q) (at_byte k f b) = absurd (a.characters k b)
  one_text_case text x w (at_error y r p e a s q) (at_deep k f nor b) = absurd (a.shallow k b)
  one_text_case text x w (at_error y r p e a s q) (at_syntax o f b never u) = absurd (never y s)
  one_text_case text x w (at_error y r p e a s q) (at_error z v o f b t u) =
      let here : IsFirstError (E z) (rule_number r) p =
      subst (λ h. IsFirstError (E h) (rule_number r) p) (one text y z s t) q in
      e ∙ one_type_error (E z) r v p o here u ∙ sym f
  one_text_case text x w (at_error y r p e a s q) (at_limit z l f b t typed u) =
      let here : IsFirstError (E z) (rule_number r) p =
      subst (λ h. IsFirstError (E h) (rule_number r) p) (one text y z s t) q in
      absurd (typed (rule_number r) p here.here)
  one_text_case text x w (at_limit y l e a s typed q) (at_byte k f b) = absurd (a.characters k b)
  one_text_case text x w (at_limit y l e a s typed q) (at_deep k f nor b) = absurd (a.shallow k b)
  one_text_case text x w (at_limit y l e a s typed q) (at_syntax o f b never u) = absurd (never y s)
  one_text_case text x w (at_limit y l e a s typed q) (at_error z v o f b t u) =
      let here : IsFirstError (E y) (rule_number v) o =
      subst (λ h. IsFirstError (E h) (rule_number v) o) (one text z y t s) u in
      absurd (typed (rule_number v) o here.here)
  one_text_case text x w (at_limit y l e a s typed q) (at_limit z m f b t keeps u) =
      let here : L z l = subst (λ h. L h l) (one text y z s t) q in
      e ∙ ap LimitPassed (one_of z l m here u) ∙ sym f

-- the refusals of a program text, and of a question's

abbrev ProgramCase : List ℕ → Refusal → Type 0
ProgramCase = IsTextCase IsProgram SpellsText Broken IsFirstLimit

refusal_case : (bytes : Option (List ℕ)) (x : Refusal) → IsProgramRefused bytes x
    → IsFileCase most_bytes bytes Absent TooLong ProgramCase x
refusal_case bytes Absent e = no_file e refl
refusal_case bytes TooLong (t, e, long) = long_file t e long refl
refusal_case bytes (Byte k) (t, e, short, first) = short_file t e short (at_byte k refl first)
refusal_case bytes (Deep proc) (t, e, d) =
    short_file t e d.short (at_deep d.deep.0 (ap Deep d.deep.2) d.characters d.deep.1)
refusal_case bytes (Syntax proc) (t, e, readable, none, place) =
    short_file t e readable.short (at_syntax proc refl readable none place)
refusal_case bytes (TypeError r proc) (t, P, e, is, broken) =
    short_file t e is.readable.short (at_error P r proc refl is.readable is.spells broken)
refusal_case bytes (LimitPassed l) (t, P, e, is, typed, passed) =
    short_file t e is.readable.short (at_limit P l refl is.readable is.spells typed passed)

pub one_refusal : (bytes : Option (List ℕ)) (x y : Refusal) → IsProgramRefused bytes x → IsProgramRefused bytes y
    → x ≡ y
one_refusal bytes x y a b =
    one_file_case most_bytes bytes Absent TooLong ProgramCase
    (one_text_case IsProgram SpellsText Broken IsFirstLimit one_spelled one_limit) x y
    (refusal_case bytes x a) (refusal_case bytes y b)

abbrev QuestionCase : List ℕ → Refusal → Type 0
QuestionCase = IsTextCase IsQuestion Poses question_rules.Broken question_limits.IsLimit

question_case : (bytes : Option (List ℕ)) (x : Refusal) → IsQuestionRefused bytes x
    → IsFileCase most_bytes bytes Absent TooLong QuestionCase x
question_case bytes Absent e = no_file e refl
question_case bytes TooLong (t, e, long) = long_file t e long refl
question_case bytes (Byte k) (t, e, short, first) = short_file t e short (at_byte k refl first)
question_case bytes (Deep p) (t, e, d) =
    short_file t e d.short (at_deep d.deep.0 (ap Deep d.deep.2) d.characters d.deep.1)
question_case bytes (Syntax p) (t, e, readable, none, place) =
    short_file t e readable.short (at_syntax p refl readable none place)
question_case bytes (TypeError r p) (t, q, e, is, broken) =
    short_file t e is.readable.short (at_error q r p refl is.readable is.poses broken)
question_case bytes (LimitPassed l) (t, q, e, is, typed, passed) =
    short_file t e is.readable.short (at_limit q l refl is.readable is.poses typed passed)

pub one_question_refusal : (bytes : Option (List ℕ)) (x y : Refusal) → IsQuestionRefused bytes x
    → IsQuestionRefused bytes y → x ≡ y
one_question_refusal bytes x y a b =
    one_file_case most_bytes bytes Absent TooLong QuestionCase
    (one_text_case IsQuestion Poses question_rules.Broken question_limits.IsLimit one_posed one_question_limit) x y
    (question_case bytes x a) (question_case bytes y b)
