-- The files that a run begins, in their order.
use Rattle.std.proofs.Common.{◌≡◌, ◌∙◌, ℕ, ◌+◌, List, [], ◌∷◌, ◌++◌, refl, sym, ap, subst, append_assoc, append-nil}
use Rattle.std.proofs.Common.{arith}
use Rattle.std.specs.Prelude.{Option, Some, None}
use Rattle.gh_base.specs.Outside.{AddsName, MakesAtMost}
use Rattle.gh_base.proofs.CallLemmas.{none_more}
use Rattle.gh_ast.specs.Plain.{Program}
use Rattle.gh_path.specs.Admitted.{IsAdmitted}
use Rattle.gh_top.specs.Causes.{IsFile}
use Rattle.gh_top.specs.Words.{IsRequest, IsOnProgram}
use Rattle.gh_top.specs.Files.{Shows, IsSourceRead}
use Rattle.gh_top.specs.Headline.{Files, AreAsTold, Asks}
use Rattle.gh_top.specs.Sources.{Source, from_file, self_made, source_of, second_file}
use Rattle.gh_top.specs.Fronts.{IsTextOf}
use Rattle.gh_ast.specs.Limits.{most_bytes}
use Rattle.gh_base.specs.Reading.{told, calls_for}
use Rattle.gh_top.specs.Reads.{nothing, first, second, AddsNames, ReadsInOrder, ReadsFile, ReadsNothing, FirstRead}
use Rattle.gh_top.specs.Reads.{ReadsFor, ReadsOn}
use Rattle.gh_top.specs.Seen.{InputsTold, Reading}
use Rattle.gh_top.specs.declared.file.FileText.{FileText}
use Rattle.gh_top.specs.declared.words.Request.{Request}
use Rattle.gh_top.specs.declared.words.Request.TheVariants.{Stress}
use Rattle.gh_top.proofs.FileLemmas.{one_file}
use Rattle.gh_top.proofs.HeadlineLemmas.{asks_of, program_shown, second_on_files}

-- names and calls that are told

no_names : (o : Option (List (List ℕ))) → AddsNames o o []
no_names None = refl
no_names (Some names) = sym (append-nil names)

one_name : (o n : Option (List (List ℕ))) (f : List ℕ) → AddsName o n f → AddsNames o n (f ∷ [])
one_name None n f h = h
one_name (Some before) None f h = tt
one_name (Some before) (Some after) f h = h

none_stays : (m n : Option (List (List ℕ))) (g : List ℕ) → m ≡ None → AddsName m n g → n ≡ None
none_stays None n g e h = h
none_stays (Some names) n g e h = absurd cc

two_names : (o m n : Option (List (List ℕ))) (f g : List ℕ) → AddsName o m f → AddsName m n g
    → AddsNames o n (f ∷ g ∷ [])
two_names None m n f g h k = none_stays m n g h k
two_names (Some before) m None f g h k = tt
two_names (Some before) None (Some after) f g h k = absurd cc
two_names (Some before) (Some between) (Some after) f g h k =
    k ∙ ap (λ names. names ++ g ∷ []) h ∙ append_assoc before (f ∷ []) (g ∷ [])

still_named : (o n : Option (List (List ℕ))) → n ≡ o → AddsNames o n []
still_named o n e = rw e (no_names o)

still_called : (b a : Option ℕ) → a ≡ b → MakesAtMost 0 b a
still_called b a e = rw e (none_more b)

more_calls : (n m : ℕ) (a b c : Option ℕ) → MakesAtMost n a b → MakesAtMost m b c → MakesAtMost (n + m) a c
more_calls n m None b c h k = tt
more_calls n m (Some a) None c h k = absurd h
more_calls n m (Some a) (Some b) None h k = absurd k
more_calls n m (Some a) (Some b) (Some c) h k = omega (arith, h, k)

-- the order, after each step of a run

pub none_ordered : (words : List (List ℕ)) (i : InputsTold) → ReadsInOrder words (record { before = i; after = i })
none_ordered words i = record {
  names = [];
  most = 0;
  order = nothing;
  begun = no_names i.names;
  calls = none_more i.calls;
  table = refl;
}

pub first_read : (q : Request) (name : List ℕ) (most : ℕ) (r : Reading) → source_of q ≡ from_file name most
    → ReadsFile name most r → FirstRead (source_of q) r
first_read q name most r is file = subst (λ s. FirstRead s r) (sym is) file

nothing_read : (i : InputsTold) → ReadsNothing (record { before = i; after = i })
nothing_read i = record { names = refl; calls = refl; table = refl }

pub made_first : (q : Request) (k : ℕ) (i : InputsTold) → q ≡ Stress k
    → FirstRead (source_of q) (record { before = i; after = i })
made_first q k i is = subst (λ p. FirstRead (source_of p) (record { before = i; after = i })) (sym is) (nothing_read i)

ordered_at : (words : List (List ℕ)) (q : Request) (s : Source) (r : Reading) → source_of q ≡ s → FirstRead s r
    → IsRequest words q → ReadsInOrder words r
ordered_at words q (self_made text) r is h asks =
    record {
      names = [];
      most = 0;
      order = nothing;
      begun = still_named r.before.names r.after.names h.names;
      calls = still_called r.before.calls r.after.calls h.calls;
      table = h.table;
    }
ordered_at words q (from_file f most) r is h asks =
    record {
      names = f ∷ [];
      most = calls_for (told r.before.table f) most;
      order = first q asks is;
      begun = one_name r.before.names r.after.names f h.begun;
      calls = h.calls;
      table = h.table;
    }

pub first_ordered : (q : Request) (r : Reading) → FirstRead (source_of q) r → ReadsFor q r
first_ordered q r h words asks = ordered_at words q (source_of q) r refl h asks

-- nothing more was begun
pub stays_on : (q : Request) (i : InputsTold) → ReadsOn q (record { before = i; after = i })
stays_on q i j h words asks = first_ordered q (record { before = j; after = i }) h words asks

-- the second file was begun too

second_at : (words : List (List ℕ)) (q : Request) (s : Source) (g : List ℕ) (limit : ℕ) (P : Program) (files : Files)
    (i : InputsTold) (r : Reading)
    → source_of q ≡ s → IsFile s → second_file q ≡ Some (g, limit) → AreAsTold r.before.table words files
    → Asks words files q P
    → FirstRead s (record { before = i; after = r.before }) → ReadsFile g limit r
    → ReadsInOrder words (record { before = i; after = r.after })
second_at words q (self_made text) g limit P files i r is on second_is told_by asked h file = absurd on
second_at words q (from_file f most) g limit P files i r is on second_is told_by asked h file =
    record {
      names = f ∷ g ∷ [];
      most = calls_for (told i.table f) most + calls_for (told i.table g) limit;
      order = second q files (subst (λ t. AreAsTold t words files) h.table told_by) asked is second_is;
      begun = two_names i.names r.before.names r.after.names f g h.begun file.begun;
      calls =
          more_calls (calls_for (told i.table f) most) (calls_for (told i.table g) limit) i.calls r.before.calls
          r.after.calls h.calls
          (subst (λ t. MakesAtMost (calls_for (told t g) limit) r.before.calls r.after.calls) h.table file.calls);
      table = file.table ∙ h.table;
    }

pub second_ordered : (q : Request) (g : List ℕ) (limit : ℕ) (file : FileText) (P : Program) (r : Reading)
    → second_file q ≡ Some (g, limit) → IsOnProgram q → IsSourceRead r.before.table (source_of q) file
    → ((bytes : Option (List ℕ)) → Shows most_bytes bytes file → IsTextOf bytes P) → IsAdmitted P
    → ReadsFile g limit r → ReadsOn q r
second_ordered q g limit file P r second_is on read front admitted more i h words asks =
    let fs = one_file r.before.table words q read.bytes asks read.are in
    second_at words q (source_of q) g limit P fs.0 i r refl (second_on_files q (g, limit) second_is) second_is fs.1
    (asks_of words fs.0 q P read.bytes asks on fs.2 (front read.bytes (program_shown q read.bytes file on read.shows))
    admitted) h more
