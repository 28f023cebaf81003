-- From a question's text to its answer.
use Rattle.std.proofs.Common.{◌≡◌, ℕ, ◌≤◌, List, [], ◌∷◌, ◌++◌, length, refl, sym, ◌∙◌, ap, subst}
use Rattle.std.specs.Prelude.{Option, Some, codes, All}
use Rattle.std.proofs.lemmas.List.Elements.{All-head}
use Rattle.gh_base.specs.Outside.{Table}
use Rattle.gh_ast.specs.Programs.{names}
use Rattle.gh_ast.specs.Questions.{Question}
use Rattle.gh_trace.specs.Kept.{state_of}
use Rattle.gh_trace.specs.declared.state.State as kept
use Rattle.gh_log.specs.declared.lines.Section.{Section}
use Rattle.gh_log.specs.Texts.{log_text}
use Rattle.gh_draw.specs.Drawings.{line}
use Rattle.gh_draw.specs.Drawn.{drawing_text, HasValues}
use Rattle.gh_draw.proofs.Texts.{one_told}
use Rattle.gh_draw.proofs.Refuted.{state_drawable}
use Rattle.gh_parse.specs.Parsing.{IsAsked, IsQuestionRefusal}
use Rattle.gh_parse.specs.declared.error.ParseError.{ParseError}
use Rattle.gh_parse.specs.declared.error.ParseError.TheVariants as parsing
use Rattle.gh_entail.specs.Rules.{IsTyped}
use Rattle.gh_entail.specs.Asked.{IsAskRefusal}
use Rattle.gh_entail.specs.Answers.{IsAnswer, FailsIn}
use Rattle.gh_entail.specs.declared.answer.Entailment.TheVariants.{Yes}
use Rattle.gh_entail.specs.declared.admit.AskError.{AskError}
use Rattle.gh_entail.specs.declared.admit.AskError.TheVariants as asking
use Rattle.gh_entail.proofs.Stating.{variables_are_distinct}
use Rattle.gh_top.specs.Entails.{IsQuestionText, IsQuestionRefused, PosesAdmitted, IsFailingReport}
use Rattle.gh_top.specs.Files.{Shows, IsSourceRead}
use Rattle.gh_top.specs.Fronts.{of_parse}
use Rattle.gh_top.specs.Headline.{HasAnswer, entail_refused, entail_verified, entail_refuted}
use Rattle.gh_top.specs.QuestionReplies.{of_ask, IsQuestionFrontError, IsReplyTo, entailed, failing, RepliesToQuestion}
use Rattle.gh_ast.specs.Limits.{most_bytes}
use Rattle.gh_top.specs.Refusals.{refusal_text}
use Rattle.gh_top.specs.Sources.{source_of}
use Rattle.gh_top.specs.Words.{IsRequest}
use Rattle.gh_top.specs.declared.file.FileText.{FileText}
use Rattle.gh_top.specs.declared.refusal.Refusal.{Refusal}
use Rattle.gh_top.specs.declared.status.Status.{Status}
use Rattle.gh_top.specs.declared.status.Status.TheVariants.{Verified, Refuted, TextRefused}
use Rattle.gh_top.specs.declared.words.Request.{Request}
use Rattle.gh_top.specs.declared.words.Request.TheVariants.{Entail}
use Rattle.gh_top.proofs.DecidingLemmas.{alone_spelled}
use Rattle.gh_top.proofs.FileLemmas.{one_file}
use Rattle.gh_top.proofs.RuleLemmas.{first_asked}

pub question_refused : (text : List ℕ) (e : ParseError) → length text ≤ most_bytes → IsQuestionRefusal text e
    → IsQuestionFrontError (Some text) (of_parse e)
question_refused text (parsing.Byte offset) short why = (text, refl, short, why)
question_refused text (parsing.Deep span) short why =
    (text, refl, record { short = short; characters = why.0; deep = why.1 })
question_refused text (parsing.Syntax span) short why =
    (text, refl, record { short = short; characters = why.characters; shallow = why.shallow }, why.none, why.place)
question_refused text parsing.OutOfMemory short why = tt

pub asked_text : (text : List ℕ) (q : Question) → length text ≤ most_bytes → IsAsked text q → IsQuestionText text q
asked_text text q short p =
    record { readable = record { short = short; characters = p.characters; shallow = p.shallow }; poses = p.spelled }

pub ask_refused : (text : List ℕ) (q : Question) (e : AskError) → IsQuestionText text q → IsAskRefusal q e
    → IsQuestionFrontError (Some text) (of_ask e)
ask_refused text q (asking.TypeError number span) posed why = (text, q, refl, posed, first_asked q number span why)
ask_refused text q (asking.Limit passed) posed why = (text, q, refl, posed, why.0, why.1)
ask_refused text q asking.OutOfMemory posed why = tt

-- the reports
pub entailed_report : (q : Question) (s : Section) (status : Status) (u : List ℕ) → IsAnswer q (Yes s)
    → status ≡ Verified → u ≡ line (codes "entailed") ++ log_text 2 (s.lines ∷ [])
    → IsReplyTo q status u
entailed_report q s status u y a b =
    subst (λ t. IsReplyTo q t u) (sym a)
    (entailed (record {
      entailed = y.0;
      section = s.lines;
      valid = y.1.valid;
      spelled = alone_spelled s.lines y.1.spelled;
      text_is = b;
    }))

pub failing_report : (q : Question) (x : kept.State) (shown front u : List ℕ) → IsTyped q → FailsIn q x
    → All HasValues (x ∷ []) → shown ≡ drawing_text 1 (x ∷ []) → front ≡ line (codes "not entailed")
    → u ≡ front ++ shown
    → IsFailingReport q u
failing_report q x shown front u typed f values told begun a =
    record {
      state = state_of x;
      proper = f.proper;
      fails = f.fails;
      drawable = state_drawable (names q.variables) x (All-head HasValues x [] values);
      text_is =
          a ∙ ap (λ z. z ++ shown) begun
          ∙ ap (λ z. line (codes "not entailed") ++ z)
          (told ∙ one_told (names q.variables) 1 x (variables_are_distinct q typed) f.names);
    }

pub failing_reply : (q : Question) (status : Status) (u : List ℕ) → status ≡ Refuted → IsFailingReport q u
    → IsReplyTo q status u
failing_reply q status u a f = subst (λ t. IsReplyTo q t u) (sym a) (failing f)

-- the answers
reply_answers : (q : Question) (s : Status) (u : List ℕ) (bytes : Option (List ℕ)) → PosesAdmitted bytes q
    → IsReplyTo q s u → RepliesToQuestion bytes s u
reply_answers q _ u bytes p (entailed v) f words files asks at =
    entail_verified asks (subst (λ b. PosesAdmitted b q) (sym at) p) v
reply_answers q _ u bytes p (failing v) f words files asks at =
    entail_refuted asks (subst (λ b. PosesAdmitted b q) (sym at) p) v

pub decided_replies : (q : Question) (file : FileText) (s : Status) (u : List ℕ)
    → ((bytes : Option (List ℕ)) → Shows most_bytes bytes file → PosesAdmitted bytes q) → IsReplyTo q s u
    → (bytes : Option (List ℕ)) → Shows most_bytes bytes file → RepliesToQuestion bytes s u
decided_replies q file s u posed r bytes shows = reply_answers q s u bytes (posed bytes shows) r

pub refused_replies : (file : FileText) (x : Refusal) (s : Status) (u : List ℕ)
    → ((bytes : Option (List ℕ)) → Shows most_bytes bytes file → IsQuestionRefused bytes x) → s ≡ TextRefused
    → u ≡ refusal_text x
    → (bytes : Option (List ℕ)) → Shows most_bytes bytes file → RepliesToQuestion bytes s u
refused_replies file x s u why a b bytes shows f words files asks at =
    rw (a, b) (entail_refused x asks (subst (λ o. IsQuestionRefused o x) (sym at) (why bytes shows)))

-- the file of a question is read, and this is the answer
pub question_answer : (t : Option Table) (r : Request) (name : List ℕ) (file : FileText) (s : Status) (u : List ℕ)
    → r ≡ Entail name → IsSourceRead t (source_of r) file
    → ((bytes : Option (List ℕ)) → Shows most_bytes bytes file → RepliesToQuestion bytes s u) → (words : List (List ℕ))
    → IsRequest words r → HasAnswer t words s u
question_answer t r name file s u is read k words asks =
    let asked : IsRequest words (Entail name) = subst (λ x. IsRequest words x) is asks in
    let source : IsSourceRead t (source_of (Entail name)) file =
    subst (λ x. IsSourceRead t (source_of x) file) is read in
    let f = one_file t words (Entail name) source.bytes asked source.are in
    record { files = f.0; told = f.1; answer = k source.bytes source.shows name words f.0 asked f.2 }
