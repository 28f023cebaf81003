-- What is replied where a text gives no program with conditions.
use Rattle.std.specs.Prelude.{◌≡◌, ◌⊎◌, ℕ, List, Some}
use Rattle.gh_ast.specs.Plain.{Program}
use Rattle.gh_lens.specs.Fronts.{IsTextRefusal, IsUnadmitted, cause}
use Rattle.gh_lens.specs.declared.front.FrontError.{FrontError}
use Rattle.gh_parse.specs.Parsing.{IsParsed}
use Rattle.gh_path.specs.Admitted.{IsAdmitted}
use Rattle.gh_top.specs.declared.status.Status.TheVariants.{TextRefused}
use Rattle.gh_page.specs.declared.reply.Reply.{Reply}

-- the text spells the program, which keeps the limits on conditions
pub record IsRead (text : List ℕ) (P : Program) : Type 0 where
  pub parsed : IsParsed text P
  pub admitted : IsAdmitted P

-- the text is refused, or the program that it spells
abbrev pub IsFrontRefusal : List ℕ → FrontError → Type 0
IsFrontRefusal text e = IsTextRefusal text e ⊎ ((P : Program) × IsParsed text P × IsUnadmitted P e)

-- the reply has the cause in words
pub record IsRefusalReply (e : FrontError) (r : Reply) : Type 0 where
  pub status : r.status ≡ TextRefused
  pub text : cause e ≡ Some r.text

pub record IsRefused (text : List ℕ) (r : Reply) : Type 0 where
  pub error : FrontError
  pub refused : IsFrontRefusal text error
  pub reply : IsRefusalReply error r

-- the reply is about the program of the text; or it tells why the text is refused
abbrev pub IsReplyOn : List ℕ → (Program → Reply → Type 0) → Reply → Type 0
IsReplyOn text F r = ((P : Program) × IsRead text P × F P r) ⊎ IsRefused text r
