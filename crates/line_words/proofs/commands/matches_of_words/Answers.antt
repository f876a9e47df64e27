-- The words are read by the command that the definition says.
use Rattle.std.proofs.Common.{Bor, ap, refl, subst, true, map, List, Result, ◌≡◌, ◌∙◌}
use Rattle.std.proofs.lemmas.Result.{IfErr-weaker, IfOk-weaker}
use Rattle.clap.specs.Words.{App, FailsBy, app_of, fault_of, is_simple, is_simple_and_free, Text}
use Rattle.clap.specs.Words.{subcommand_of, takes}
use Rattle.clap.proofs.OnLiterals.{clap_on_literals}
use Rattle.clap.specs.declared.error.Error.{Error}
use Rattle.line_words.specs.Words.{recline, refusals_of}
use Rattle.line_words.proofs.commands.matches_of_words.Goals as goal

free : is_simple_and_free recline ≡ true
unfolding clap_on_literals
free = refl

simple : is_simple recline ≡ true
unfolding clap_on_literals
simple = refl

fails_as : {T : Type 0} (a : App) (words : List Text) (result : Result T Error) → a ≡ recline
    → (is_simple_and_free a ≡ true → FailsBy (fault_of a words) result)
    → FailsBy (refusals_of words) result
unfolding refusals_of
fails_as a words result same h = subst (λ (x : App). FailsBy (fault_of x words) result) same
    (h (ap is_simple_and_free same ∙ free))

pub returns : goal.returns
returns c =
    let recline_is : app_of c.in_ok-recline.recline ≡ recline = c.in_ok-recline.ensures in
    let words : List Text = map (λ (w : Bor Text). w.now) c.args.words.now in
    let parse = c.try_get_matches_from in
    record {
      ok = IfOk-weaker parse.result _ _ (λ m h. (h (ap is_simple recline_is ∙ simple)).1 ∙ ap
          (λ (a : App). subcommand_of a words) recline_is) parse.ensures.matches;
      err = IfErr-weaker parse.result _ _
          (λ e h t. h (ap (λ (a : App). takes a words) recline_is ∙ t)) parse.ensures.passes;
      kinds = fails_as _ words parse.result recline_is parse.ensures.kinds;
    }
