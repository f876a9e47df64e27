-- A restart of what was gathered is one of the workers' own tapes.
use Rattle.std.proofs.Common.{◌≡◌, ◌∙◌, ◌++◌, ◌∷◌, [], ◌&&◌, ℕ, suc, Bool, true, false, List}
use Rattle.std.proofs.Common.{length, map, not, refl, sym, ap, arith, subst}
use Rattle.std.proofs.lemmas.List.{append-nil, length-append, nil_from_length}
use Rattle.std.specs.List.{filter_map}
use Rattle.line_names.specs.declared.choices.Choice.{Choice}
use Rattle.line_names.specs.declared.choices.Choice.TheVariants.{Check as AtCheck, Now}
use Rattle.line_names.specs.Lines.{choice_at}
use Rattle.line_names.specs.Sets.{is_member}
use Rattle.line_tape.specs.declared.events.Event.{Event}
use Rattle.line_tape.specs.declared.items.Item.TheVariants.{Message}
use Rattle.line_tape.specs.Fit.{IsFitFifo, link}
use Rattle.line_tape.specs.Front.{front, HasChoice}
use Rattle.line_tape.specs.History.{Process, incarnation_at, tape_at}
use Rattle.line_tape.specs.Line.{events_before, IsConsistent}
use Rattle.line_tape.specs.Restart.{restarted_history, restarted_event, restarted_incarnation}
use Rattle.line_tape.specs.Restart.{restarted_process}
use Rattle.line_tape.specs.Rounds.{rounds_checked}
use Rattle.line_tape.specs.Survival.{is_allowed, survives, IsLatest}
use Rattle.line_tape.specs.Transit.{in_transit_between}
use Rattle.line_tape.specs.Views.{bar_at, MarksView}
use Rattle.line_tape.proofs.ChoiceLemmas.{survives_within}
use Rattle.line_laws.proofs.LinkLemmas.{no_rounds, restart_fit, restart_link}
use Rattle.line_tape.proofs.StayLemmas.{tape_restarted}
use Rattle.line_laws.proofs.SnapshotLemmas.{consistent_same, front_more, transit_same}
use Rattle.line_posts.specs.Gathered.{HasOwn}
use Rattle.line_posts.specs.Openings.{parcels_left, ArePlain}
use Rattle.line_posts.specs.Parcels.{items_of_parcels}
use Rattle.line_posts.proofs.OpeningLemmas.{left_items}

module _ (history : List Process) (marks : MarksView) (failed : List Bool) where
  has_choice : (p : ℕ) (choice : Choice) → survives history marks failed p choice ≡ true
      → HasChoice (tape_at history p) choice
  has_choice p (AtCheck c) h = survives_within history marks failed p c h
  has_choice p Now h = tt

  stays_alive : (p : ℕ) (choice : Choice) → survives history marks failed p choice ≡ true
      → choice ≡ Now → is_member failed p ≡ false
  stays_alive p (AtCheck c) h e = cc e
  stays_alive p Now h e = alive (is_member failed p) (is_allowed (bar_at marks p) Now) h
    where
      alive : (b allowed : Bool) → (not b && allowed) ≡ true → b ≡ false
      alive true allowed k = cc k
      alive false allowed k = refl

nothing_lost : (xs ys : List Event) → xs ≡ xs ++ ys → ys ≡ []
nothing_lost xs ys e =
    (let a = ap length e in let b = length-append xs ys in nil_from_length ys (omega (arith, a, b)))

-- a front of what was gathered is one of the own tape
front_kept : (xs lost own : List Event) (choice : Choice) → own ≡ xs ++ lost → HasChoice xs choice
    → (choice ≡ Now → lost ≡ []) → front xs choice ≡ front own choice
front_kept xs lost own (AtCheck c) is has all =
    sym (ap (λ t. front t (AtCheck c)) is ∙ front_more xs lost c has)
front_kept xs lost own Now is has all =
    ap (λ t. front t Now) (sym (append-nil xs) ∙ (ap (λ t. xs ++ t) (sym (all refl)) ∙ sym is))

-- the same incarnations and the same fronts
restarted_same : (gathered own : List Process) (line : List Choice) → length gathered ≡ length own
    → ((p : ℕ) → incarnation_at gathered p ≡ incarnation_at own p)
    → ((p : ℕ) → events_before gathered line p ≡ events_before own line p)
    → restarted_history gathered line ≡ restarted_history own line
restarted_same [] [] line n i h = refl
restarted_same [] (o ∷ own) line n i h = absurd (omega (arith, n))
restarted_same (g ∷ gathered) [] line n i h = absurd (omega (arith, n))
restarted_same (g ∷ gathered) (o ∷ own) [] n i h = refl
restarted_same (g ∷ gathered) (o ∷ own) (choice ∷ line) n i h =
    let tape = ap (filter_map restarted_event) (h 0) in
    let inc = ap (restarted_incarnation choice) (i 0) in
    let same : restarted_process g choice ≡ restarted_process o choice = rw (tape, inc) refl in
    ap (λ t. t ∷ restarted_history gathered line) same
    ∙ ap (λ t. restarted_process o choice ∷ t)
    (restarted_same gathered own line (omega (arith, n)) (λ p. i (suc p)) (λ p. h (suc p)))

module _ (gathered : List Process) (marks : MarksView) (failed : List Bool) (line : List Choice)
    (has : HasOwn failed gathered) (latest : IsLatest gathered marks failed line) where
  same_front : (p : ℕ) → events_before gathered line p ≡ events_before has.0 line p
  same_front p =
      let choice = choice_at line p in
      let alive = latest.recoverable.surviving p in
      let (lost, joins) = has.2.begins p in
      let begins = sym joins in
      front_kept (tape_at gathered p) lost (tape_at has.0 p) choice begins
      (has_choice gathered marks failed p choice alive)
      (λ e. nothing_lost (tape_at gathered p) lost
      (has.2.whole p (stays_alive gathered marks failed p choice alive e) ∙ begins))

  same_restart : restarted_history gathered line ≡ restarted_history has.0 line
  same_restart = restarted_same gathered has.0 line has.2.count has.2.incarnations same_front

  own_consistent : IsConsistent has.0 line
  own_consistent =
      consistent_same gathered has.0 line (λ p. sym (same_front p)) latest.recoverable.consistent

  own_length : length line ≡ length has.0
  own_length = latest.recoverable.length_is ∙ has.2.count

  -- links can lead in order to the cut tapes
  pub restart_fits : IsFitFifo (restarted_history gathered line)
  restart_fits =
      subst IsFitFifo (sym same_restart) (restart_fit has.0 line has.1 own_consistent own_length)

  -- they have no check of a round
  pub restart_plain : ArePlain (restarted_history gathered line)
  restart_plain p = ap rounds_checked (tape_restarted gathered line p latest.recoverable.length_is)
      ∙ no_rounds (events_before gathered line p)

  -- and their links hold what was in transit at the line
  pub restart_links : (p q : ℕ) → items_of_parcels p (parcels_left (restarted_history gathered line)
      p q) ≡ map (λ m. Message m) (in_transit_between gathered line p q)
  restart_links p q =
      left_items (restarted_history gathered line) p q
      ∙ (ap (λ h. link h p q) same_restart
      ∙ (restart_link has.0 line has.1 own_consistent own_length p q
      ∙ ap (λ ms. map (λ m. Message m) ms)
      (transit_same gathered has.0 line (λ k. sym (same_front k)) p q)))
