-- A log, a drawing, a state or a session file that is refused is refused with one text.
use Rattle.std.proofs.Common.{◌≡◌, ◌≢◌, ◌⊎◌, inl, inr, ◌∙◌, ℕ, ◌+◌, ◌<◌, List, [], ◌∷◌, ◌++◌, length, map, append_assoc}
use Rattle.std.proofs.Common.{length-append, refl, sym, ap, subst, arith}
use Rattle.std.specs.Prelude.{Option, codes, slice_get}
use Rattle.std.specs.Fmt.{decimal}
use Rattle.gh_ast.specs.Plain.{Program}
use Rattle.gh_ast.proofs.Lists.{one_value}
use Rattle.gh_check.proofs.SectionLemmas.{apart, one}
use Rattle.gh_check.specs.Names.{fault_kind, fault_name}
use Rattle.gh_decide.specs.Logs.{AreValidSections}
use Rattle.gh_draw.proofs.Shown.{file_one, file_shown}
use Rattle.gh_draw.specs.Drawings.{line}
use Rattle.gh_draw.specs.Drawn.{IsFileOf}
use Rattle.gh_log.proofs.OutsideLemmas.{logs_are_inside}
use Rattle.gh_log.specs.Lines.{LogLine}
use Rattle.gh_log.specs.Sections.{IsFirstFault}
use Rattle.gh_log.specs.Spelled.{IsLogText, IsFirstOutside, lines_before}
use Rattle.gh_path.specs.Conditions.{Condition, conditions, IsConditionAt, IsOf}
use Rattle.gh_run.proofs.OneFile.{state_files_are_one}
use Rattle.gh_run.specs.StateFiles.{IsFaultyLine}
use Rattle.gh_session.proofs.Orders.{IsOrder, one_place, left_first, right_first, ordered}
use Rattle.gh_session.proofs.Refusing.{one_bad_line, one_too_many, bad_or_too_many}
use Rattle.gh_session.specs.Lines.{IsFirstBad}
use Rattle.gh_session.specs.declared.error.SessionError.TheVariants.{Line, TooMany}
use Rattle.gh_symb.specs.Formulas.{problem}
use Rattle.gh_symb.specs.Symbolic.{symbolic_of}
use Rattle.gh_top.proofs.OneRefusal.{IsFileCase, no_file, long_file, short_file, one_file_case}
use Rattle.gh_decide.proofs.Decided.{as_many}
use Rattle.gh_top.proofs.OneStatus.{one_log, section_at, one_at}
use Rattle.gh_top.specs.Rechecks.{most_logged, lines_in, IsLogOf, IsFirstFaultIn, IsLogRefusal}
use Rattle.gh_top.specs.Rechecks as recheck
use Rattle.gh_draw.specs.Drawings.{most_drawn}
use Rattle.gh_top.specs.Replays.{IsDrawingRefusal, failed_step_text}
use Rattle.gh_top.specs.Replays as replay
use Rattle.gh_top.specs.Runs.{most_stated, IsStateRefusal}
use Rattle.gh_top.specs.Runs as run
use Rattle.gh_top.specs.Sessions.{most_edited, IsSessionRefusal}
use Rattle.gh_top.specs.Sessions as sessions
use Rattle.gh_trace.proofs.Failures.{failures_are_one}
use Rattle.gh_trace.specs.Kept.{drawn}
use Rattle.gh_trace.specs.Replay.{FirstFailure}
use Rattle.gh_trace.specs.declared.state.State.{State}

-- the first line outside the grammar

-- of two fronts of one text one goes on with what the other is
data AreNested (f g r s : List ℕ) : Type 0 where
  one_front : f ≡ g → AreNested f g r s
  shorter_front : (b : ℕ) (m : List ℕ) → g ≡ f ++ b ∷ m → r ≡ (b ∷ m) ++ s → AreNested f g r s
  longer_front : (b : ℕ) (m : List ℕ) → f ≡ g ++ b ∷ m → s ≡ (b ∷ m) ++ r → AreNested f g r s

nested_on : {f g r s : List ℕ} (b c : ℕ) → b ≡ c → AreNested f g r s → AreNested (b ∷ f) (c ∷ g) r s
nested_on {g = g} b c e (one_front h) = one_front (ap (λ z. b ∷ z) h ∙ ap (λ z. z ∷ g) e)
nested_on {f = f} b c e (shorter_front d m h k) =
    shorter_front d m (ap (λ z. c ∷ z) h ∙ ap (λ z. z ∷ (f ++ d ∷ m)) (sym e)) k
nested_on {g = g} b c e (longer_front d m h k) = longer_front d m (ap (λ z. b ∷ z) h ∙ ap (λ z. z ∷ (g ++ d ∷ m)) e) k

nested : (f g r s : List ℕ) → f ++ r ≡ g ++ s → AreNested f g r s
nested [] [] r s e = one_front refl
nested [] (c ∷ g) r s e = shorter_front c g refl e
nested (b ∷ f) [] r s e = longer_front b f refl (sym e)
nested (b ∷ f) (c ∷ g) r s e =
    let p : b ≡ c = cc in
    let q : f ++ r ≡ g ++ s = cc in
    nested_on b c p (nested f g r s q)

no_front : (f : List ℕ) (b : ℕ) (m : List ℕ) → f ++ b ∷ m ≡ [] → ⊥
no_front [] b m e = absurd cc
no_front (c ∷ f) b m e = absurd cc

still_before : (f m : List ℕ) (b : ℕ) (r : List ℕ) → (f ≡ []) ⊎ (IsLogText f × (r ≢ []))
    → (f ≡ []) ⊎ (IsLogText f × ((b ∷ m) ≢ []))
still_before f m b r (inl none) = inl none
still_before f m b r (inr (log, some)) = inr (log, λ e. absurd cc)

-- the first line outside isn't one of a log that the text begins with
inside_front : (text : List ℕ) (j k : ℕ) (b : ℕ) (m : List ℕ) → (a : IsFirstOutside text j)
    → (o : IsFirstOutside text k) → o.front ≡ a.front ++ b ∷ m → a.rest ≡ (b ∷ m) ++ o.rest → ⊥
inside_front text j k b m a o front rest = elim o.before as (λ _. ⊥) [
  | inl none ↦ no_front a.front b m (sym front ∙ none)
  | inr (log, some) ↦
      logs_are_inside o.front j log (record {
        front = a.front;
        rest = b ∷ m;
        whole = front;
        number_is = a.number_is;
        before = still_before a.front m b a.rest a.before;
        outside =
            λ l after e plain. a.outside l (after ++ o.rest)
            (rest ∙ ap (λ z. z ++ o.rest) e ∙ append_assoc l (10 ∷ after) o.rest) plain;
      })
]

one_outside : (text : List ℕ) (j k : ℕ) → IsFirstOutside text j → IsFirstOutside text k → j ≡ k
one_outside text j k a o = elim (nested a.front o.front a.rest o.rest (sym a.whole ∙ o.whole)) as (λ _. j ≡ k) [
  | one_front e ↦ a.number_is ∙ ap (λ f. lines_before f + 1) e ∙ sym o.number_is
  | shorter_front b m front rest ↦ absurd (inside_front text j k b m a o front rest)
  | longer_front b m front rest ↦ absurd (inside_front text k j b m o a front rest)
]

-- the first fault of the sections

as_long : (P : Program) (log : List (List LogLine)) (n at : ℕ) → (f : IsFirstFaultIn P log n at)
    → length f.before ≡ length f.earlier
as_long P log n at f = as_many P f.earlier f.before f.valid

longer_list : {X : Type 0} (b c d : List X) (x : X) → c ≡ b ++ x ∷ d → length b < length c
longer_list b c d x e =
    let parts : length c ≡ length (b ++ x ∷ d) = ap length e in
    let count = length-append b (x ∷ d) in
    omega (arith, parts, count)

-- the section of a first fault isn't among the valid ones before another
fault_later : (P : Program) (log : List (List LogLine)) (n m at there : ℕ) (rest : List (List LogLine))
    → (f : IsFirstFaultIn P log n at) → (g : IsFirstFaultIn P log m there) → g.before ≡ f.before ++ f.lines ∷ rest
    → IsOrder f.earlier g.earlier f.condition g.condition → ⊥
fault_later P log n m at there rest f g e (one_place same c) =
    let long = longer_list f.before g.before rest f.lines e in
    let counts : length f.earlier ≡ length g.earlier = ap length same in
    let own = as_long P log n at f in
    let other = as_long P log m there g in
    absurd (omega (arith, own, other, counts, long))
fault_later P log n m at there rest f g e (left_first more whole) =
    let valid : AreValidSections P (f.earlier ++ f.condition ∷ more) (f.before ++ f.lines ∷ rest) =
    subst (λ cs. AreValidSections P cs (f.before ++ f.lines ∷ rest)) whole
    (subst (AreValidSections P g.earlier) e g.valid) in
    apart (problem (symbolic_of P f.procedure f.condition)) f.lines n f.place
    (section_at P f.earlier f.condition more f.before f.lines rest f.valid valid f.procedure f.of) f.fault
fault_later P log n m at there rest f g e (right_first more whole) =
    let long = longer_list f.before g.before rest f.lines e in
    let longer = longer_list g.earlier f.earlier more g.condition whole in
    let own = as_long P log n at f in
    let other = as_long P log m there g in
    absurd (omega (arith, own, other, longer, long))

orders : (P : Program) (log : List (List LogLine)) (n m at there : ℕ) → (f : IsFirstFaultIn P log n at)
    → (g : IsFirstFaultIn P log m there) → IsOrder f.earlier g.earlier f.condition g.condition
orders P log n m at there f g =
    ordered f.earlier g.earlier f.later g.later f.condition g.condition (sym f.whole ∙ g.whole)

same_condition : (P : Program) (log : List (List LogLine)) (n m at there : ℕ) → (f : IsFirstFaultIn P log n at)
    → (g : IsFirstFaultIn P log m there) → length f.before ≡ length g.before
    → IsOrder f.earlier g.earlier f.condition g.condition → f.condition ≡ g.condition
same_condition P log n m at there f g e (one_place same c) = c
same_condition P log n m at there f g e (left_first more whole) =
    let longer = longer_list f.earlier g.earlier more f.condition whole in
    let own = as_long P log n at f in
    let other = as_long P log m there g in
    absurd (omega (arith, own, other, e, longer))
same_condition P log n m at there f g e (right_first more whole) =
    let longer = longer_list g.earlier f.earlier more g.condition whole in
    let own = as_long P log n at f in
    let other = as_long P log m there g in
    absurd (omega (arith, own, other, e, longer))

record IsSameFault (n m at there : ℕ) : Type 0 where
  number : n ≡ m
  place : at ≡ there

same_fault : (P : Program) (log : List (List LogLine)) (n m at there : ℕ) → (f : IsFirstFaultIn P log n at)
    → (g : IsFirstFaultIn P log m there) → f.before ≡ g.before → f.lines ≡ g.lines → f.condition ≡ g.condition
    → IsSameFault n m at there
same_fault P log n m at there f g before lines condition =
    let of : IsOf P g.condition f.procedure = subst (λ c. IsOf P c f.procedure) condition f.of in
    let procedure : f.procedure ≡ g.procedure =
    one_value (slice_get P.procedures g.condition.procedure) f.procedure g.procedure of g.of in
    let there : IsFirstFault (problem (symbolic_of P f.procedure g.condition)) g.lines n f.place =
    subst (λ c. IsFirstFault (problem (symbolic_of P f.procedure c)) g.lines n f.place) condition
    (subst (λ ls. IsFirstFault (problem (symbolic_of P f.procedure f.condition)) ls n f.place) lines f.fault) in
    let moved : IsFirstFault (problem (symbolic_of P g.procedure g.condition)) g.lines n f.place =
    subst (λ proc. IsFirstFault (problem (symbolic_of P proc g.condition)) g.lines n f.place) procedure there in
    let both = one (problem (symbolic_of P g.procedure g.condition)) g.lines n f.place m g.place moved g.fault in
    record {
      number = both.0;
      place =
          f.at_is ∙ ap (λ ss. 1 + lines_in ss + 1 + f.place + 1) before
          ∙ ap (λ k. 1 + lines_in g.before + 1 + k + 1) both.1 ∙ sym g.at_is;
    }

one_first_fault : (P : Program) (log : List (List LogLine)) (n m at there : ℕ) → IsFirstFaultIn P log n at
    → IsFirstFaultIn P log m there → IsSameFault n m at there
one_first_fault P log n m at there f g =
    elim (ordered f.before g.before f.after g.after f.lines g.lines (sym f.sections ∙ g.sections)) as
    (λ _. IsSameFault n m at there) [
      | one_place before lines ↦ same_fault P log n m at there f g before lines
          (same_condition P log n m at there f g (ap length before) (orders P log n m at there f g))
      | left_first rest e ↦ absurd (fault_later P log n m at there rest f g e (orders P log n m at there f g))
      | right_first rest e ↦ absurd (fault_later P log m n there at rest g f e (orders P log m n there at g f))
    ]

-- log files

data IsLogCase (P : Program) (text u : List ℕ) : Type 0 where
  outside_it : (k : ℕ) → IsFirstOutside text k → u ≡ line (codes "refused: log line " ++ decimal k) → IsLogCase P text u
  other_count : (log : List (List LogLine)) → IsLogOf text log → length log ≢ length (conditions P)
      → u ≡ line (codes "refused: log sections " ++ decimal (length log) ++ codes " of "
      ++ decimal (length (conditions P))) → IsLogCase P text u
  at_fault : (log : List (List LogLine)) (number at : ℕ) → IsLogOf text log → length log ≡ length (conditions P)
      → IsFirstFaultIn P log number at
      → u ≡ line (codes "refused: log line " ++ decimal at ++ codes ", " ++ fault_name (fault_kind number))
      → IsLogCase P text u

log_inside : (text : List ℕ) (k : ℕ) (log : List (List LogLine)) → IsFirstOutside text k → IsLogOf text log → ⊥
log_inside text k log o is =
    logs_are_inside text k (record { version = is.version; sections = log; text_is = is.text_is; spelled = is.spelled })
    o

one_log_case : (P : Program) (text u v : List ℕ) → IsLogCase P text u → IsLogCase P text v → u ≡ v
one_log_case P text u v (outside_it j a e) (outside_it k b f) =
    e ∙ ap (λ n. line (codes "refused: log line " ++ decimal n)) (one_outside text j k a b) ∙ sym f
one_log_case P text u v (outside_it j a e) (other_count log is many f) = absurd (log_inside text j log a is)
one_log_case P text u v (outside_it j a e) (at_fault log n at is many b f) = absurd (log_inside text j log a is)
one_log_case P text u v (other_count log is many e) (outside_it k b f) = absurd (log_inside text k log b is)
one_log_case P text u v (other_count log is many e) (other_count other too more f) =
    e ∙ ap (λ ss. line (codes "refused: log sections " ++ decimal (length ss) ++ codes " of "
    ++ decimal (length (conditions P)))) (one_log text log other is too) ∙ sym f
one_log_case P text u v (other_count log is many e) (at_fault other n at too fits b f) =
    absurd (many (ap length (one_log text log other is too) ∙ fits))
one_log_case P text u v (at_fault log n at is fits a e) (outside_it k b f) = absurd (log_inside text k log b is)
one_log_case P text u v (at_fault log n at is fits a e) (other_count other too many f) =
    absurd (many (ap length (one_log text other log too is) ∙ fits))
one_log_case P text u v (at_fault log n at is fits a e) (at_fault other m there too suits b f) =
    let moved : IsFirstFaultIn P other n at =
    subst (λ ss. IsFirstFaultIn P ss n at) (one_log text log other is too) a in
    let fault = one_first_fault P other n m at there moved b in
    e ∙ ap (λ k. line (codes "refused: log line " ++ decimal k ++ codes ", " ++ fault_name (fault_kind n))) fault.place
    ∙ ap (λ k. line (codes "refused: log line " ++ decimal there ++ codes ", " ++ fault_name (fault_kind k)))
    fault.number ∙ sym f

log_case : (P : Program) (bytes : Option (List ℕ)) (u : List ℕ) → IsLogRefusal P bytes u
    → IsFileCase most_logged bytes (line (codes "refused: log Absent")) (line (codes "refused: log TooLong"))
    (IsLogCase P) u
log_case P bytes u recheck.absent = no_file refl refl
log_case P bytes u (recheck.too_long {text = t} long) = long_file t refl long refl
log_case P bytes u (recheck.outside {text = t} k short first) = short_file t refl short (outside_it k first refl)
log_case P bytes u (recheck.other_number {text = t} log is many) =
    short_file t refl is.short (other_count log is many refl)
log_case P bytes u (recheck.fails {text = t} log n at is many found) =
    short_file t refl is.short (at_fault log n at is many found refl)

pub one_log_refusal : (P : Program) (bytes : Option (List ℕ)) (u v : List ℕ) → IsLogRefusal P bytes u
    → IsLogRefusal P bytes v → u ≡ v
one_log_refusal P bytes u v a b =
    one_file_case most_logged bytes (line (codes "refused: log Absent")) (line (codes "refused: log TooLong"))
    (IsLogCase P) (one_log_case P) u v
    (log_case P bytes u a) (log_case P bytes v b)

-- drawing files

data IsDrawingCase (P : Program) (text u : List ℕ) : Type 0 where
  none_drawn : ((n : ℕ) (xs : List State) → IsFileOf P text n xs → ⊥) → u ≡ line (codes "refused: drawing")
      → IsDrawingCase P text u
  at_step : (n k : ℕ) (xs : List State) (c : Condition) → IsFileOf P text n xs → IsConditionAt P n c
      → FirstFailure P c (map drawn xs) k → u ≡ failed_step_text k → IsDrawingCase P text u

one_drawing_case : (P : Program) (text u v : List ℕ) → IsDrawingCase P text u → IsDrawingCase P text v → u ≡ v
one_drawing_case P text u v (none_drawn none e) (none_drawn never f) = e ∙ sym f
one_drawing_case P text u v (none_drawn none e) (at_step m j ys d file at fails f) = absurd (none m ys file)
one_drawing_case P text u v (at_step n k xs c file at fails e) (none_drawn none f) = absurd (none n xs file)
one_drawing_case P text u v (at_step n k xs c file at fails e) (at_step m j ys d other there breaks f) =
    let same = file_one P text n m xs ys (file_shown P text n xs file) (file_shown P text m ys other) in
    let moved : IsConditionAt P m c = subst (λ i. IsConditionAt P i c) same.0 at in
    let condition = one_at P m c d moved there in
    let here : FirstFailure P d (map drawn ys) k =
    subst (λ z. FirstFailure P z (map drawn ys) k) condition
    (subst (λ zs. FirstFailure P c (map drawn zs) k) same.1 fails) in
    e ∙ ap failed_step_text (failures_are_one.one P d (map drawn ys) k j here breaks) ∙ sym f

drawing_case : (P : Program) (bytes : Option (List ℕ)) (u : List ℕ) → IsDrawingRefusal P bytes u
    → IsFileCase most_drawn bytes (line (codes "refused: drawing Absent")) (line (codes "refused: drawing TooLong"))
    (IsDrawingCase P) u
drawing_case P bytes u replay.absent = no_file refl refl
drawing_case P bytes u (replay.too_long {text = t} long) = long_file t refl long refl
drawing_case P bytes u (replay.no_drawing {text = t} short none) = short_file t refl short (none_drawn none refl)
drawing_case P bytes u (replay.fails {text = t} n k xs c short file at fails) =
    short_file t refl short (at_step n k xs c file at fails refl)

pub one_drawing_refusal : (P : Program) (bytes : Option (List ℕ)) (u v : List ℕ) → IsDrawingRefusal P bytes u
    → IsDrawingRefusal P bytes v → u ≡ v
one_drawing_refusal P bytes u v a b =
    one_file_case most_drawn bytes (line (codes "refused: drawing Absent")) (line (codes "refused: drawing TooLong"))
    (IsDrawingCase P) (one_drawing_case P) u v
    (drawing_case P bytes u a) (drawing_case P bytes v b)

-- state files

abbrev IsStateCase : Program → List ℕ → List ℕ → Type 0
IsStateCase P text u = (k : ℕ) × IsFaultyLine P text k × (u ≡ line (codes "refused: state line " ++ decimal k))

one_state_case : (P : Program) (text u v : List ℕ) → IsStateCase P text u → IsStateCase P text v → u ≡ v
one_state_case P text u v (j, a, e) (k, b, f) =
    e ∙ ap (λ n. line (codes "refused: state line " ++ decimal n)) (state_files_are_one.line P text j k a b) ∙ sym f

state_case : (P : Program) (bytes : Option (List ℕ)) (u : List ℕ) → IsStateRefusal P bytes u
    → IsFileCase most_stated bytes (line (codes "refused: state Absent")) (line (codes "refused: state TooLong"))
    (IsStateCase P) u
state_case P bytes u run.absent = no_file refl refl
state_case P bytes u (run.too_long {text = t} long) = long_file t refl long refl
state_case P bytes u (run.faulty {text = t} k short faulty) = short_file t refl short (k, faulty, refl)

pub one_state_refusal : (P : Program) (bytes : Option (List ℕ)) (u v : List ℕ) → IsStateRefusal P bytes u
    → IsStateRefusal P bytes v → u ≡ v
one_state_refusal P bytes u v a b =
    one_file_case most_stated bytes (line (codes "refused: state Absent")) (line (codes "refused: state TooLong"))
    (IsStateCase P) (one_state_case P) u v
    (state_case P bytes u a) (state_case P bytes v b)

-- session files

data IsSessionCase (text u : List ℕ) : Type 0 where
  at_line : (k : ℕ) → IsFirstBad text (Line k) → u ≡ line (codes "refused: session line " ++ decimal k)
      → IsSessionCase text u
  at_one_more : (k : ℕ) → IsFirstBad text (TooMany k)
      → u ≡ line (codes "refused: session TooMany at line " ++ decimal k) → IsSessionCase text u

one_session_case : (text u v : List ℕ) → IsSessionCase text u → IsSessionCase text v → u ≡ v
one_session_case text u v (at_line j a e) (at_line k b f) =
    e ∙ ap (λ n. line (codes "refused: session line " ++ decimal n)) (one_bad_line text j k a b) ∙ sym f
one_session_case text u v (at_line j a e) (at_one_more k b f) = absurd (bad_or_too_many text j k a b)
one_session_case text u v (at_one_more j a e) (at_line k b f) = absurd (bad_or_too_many text k j b a)
one_session_case text u v (at_one_more j a e) (at_one_more k b f) =
    e ∙ ap (λ n. line (codes "refused: session TooMany at line " ++ decimal n)) (one_too_many text j k a b) ∙ sym f

session_case : (bytes : Option (List ℕ)) (u : List ℕ) → IsSessionRefusal bytes u
    → IsFileCase most_edited bytes (line (codes "refused: session Absent")) (line (codes "refused: session TooLong"))
    IsSessionCase u
session_case bytes u sessions.absent = no_file refl refl
session_case bytes u (sessions.too_long {text = t} long) = long_file t refl long refl
session_case bytes u (sessions.bad_line {text = t} k short bad) = short_file t refl short (at_line k bad refl)
session_case bytes u (sessions.too_many {text = t} k short bad) = short_file t refl short (at_one_more k bad refl)

pub one_session_refusal : (bytes : Option (List ℕ)) (u v : List ℕ) → IsSessionRefusal bytes u → IsSessionRefusal bytes v
    → u ≡ v
one_session_refusal bytes u v a b =
    one_file_case most_edited bytes (line (codes "refused: session Absent")) (line (codes "refused: session TooLong"))
    IsSessionCase one_session_case u v
    (session_case bytes u a) (session_case bytes v b)
