-- What is made of one run.
use Rattle.std.proofs.Common.{arith, ◌≡◌, ◌∙◌, ◌++◌, ◌∷◌, [], refl, sym, subst, ℕ, zero, suc, Bool, List, Option, All, append-nil}
use Rattle.std.specs.List.{Any}
use Rattle.nwf_run.specs.Replaying.{AreRunsFor, Makes, text_for}
use Rattle.client_reports.specs.Runs.{Exhausts, FilesRun, IsTextOf, RunMeetsHeadline}
use Rattle.nwf_run.specs.CommandLine.{Asked, client_asked}

of_all : {X : Type 0} (P : X → Type 0) (x : X) → P x → All P (x ∷ [])
of_all P x h zero d within = h
of_all P x h (suc k) d within = absurd (omega (arith, within))

of_any : {X : Type 0} (P : X → Type 0) (x : X) → Any P (x ∷ []) → P x
of_any P x (zero, y, within, at, h) = subst P (sym at) h
of_any P x (suc k, y, within, at, h) = absurd (omega (arith, within))

module _ (tells : Bool) (held : List ℕ → Option (List ℕ)) (asked : Asked) (run : FilesRun) (whole text : List ℕ) (exhausted : Bool) where
  -- a text that is that of the one run, and of nothing else
  pub one_made : AreRunsFor tells held asked (run ∷ []) → RunMeetsHeadline (client_asked asked) run → text_for asked (run ∷ []) ≡ whole ++ [] → IsTextOf run.report whole text exhausted → Makes tells held asked text exhausted
  one_made are headline tells_it m =
      record {
        runs = run ∷ [];
        are = are;
        headline = of_all (RunMeetsHeadline (client_asked asked)) run headline;
        written = m.written ∙ sym (append-nil whole) ∙ sym tells_it;
        marked = (λ yes. (0, run, omega arith, refl, m.marked.0 yes), λ some. m.marked.1 (of_any (λ (r : FilesRun). Exhausts r.report) run some));
      }
