-- What is written is the history that was gathered, in which each tape is the one that the scripts
-- make.
use Rattle.std.proofs.Common.{◌≡◌, ◌∙◌, ℕ, List, ap, length, subst, sym}
use Rattle.std.specs.declared.alloc.Global.{Global}
use Rattle.std.specs.declared.vec.Vec.{Vec}
use Rattle.std.proofs.lemmas.List.{length-map}
use Rattle.std.proofs.lemmas.List.FromFn.{length-map-range_with_len}
use Rattle.line_fields.specs.Texts.{records_text}
use Rattle.line_claims.specs.Records.{history_records}
use Rattle.line_tape.specs.History.{Process, tape_at}
use Rattle.line_workers.specs.declared.orders.Order.{Order}
use Rattle.line_workers.specs.Scripts.{IsScripted, scripts_of}
use Rattle.line_workers.specs.MadeDrills.{drill_scripts, orders_of}
use Rattle.line_workers.proofs.made_drills.drill_text.Goals as goal

pub returns-in-Ok-write_history-clause-ok : goal.returns-in-Ok-write_history-clause-ok
returns-in-Ok-write_history-clause-ok g c =
    let workers : ℕ = c.args.workers in
    let rounds : ℕ = c.args.rounds in
    let scripts : List (Vec Order Global) = c.deref.result.now in
    let scripts_are : scripts_of scripts ≡ drill_scripts workers rounds = ap
    (λ (xs : List (Vec Order Global)). scripts_of xs) c.deref.ensures.value ∙ c.in-Ok.ensures in
    let processes : List Process = c.in_ok-gathered.gathered.processes in
    let as_many : length scripts ≡ workers = sym (length-map scripts (λ
    (s : Vec Order Global). s.items)) ∙ ap (λ (xs : List (List Order)). length xs) scripts_are
    ∙ length-map-range_with_len (λ (p : ℕ). orders_of workers p rounds) 0 workers in
    record {
      processes = processes;
      text_is = c.in-Ok-write_history.ensures.text ∙ ap
          (λ (ps : List Process). records_text (history_records ps)) c.history.ensures.value;
      count = c.in_ok-gathered.ensures.count ∙ as_many;
      incarnations = c.in_ok-gathered.ensures.incarnations;
      tapes = λ p. subst (λ (all : List (List Order)). IsScripted all p (tape_at processes p))
          scripts_are (c.in_ok-gathered.ensures.scripted p);
    }
