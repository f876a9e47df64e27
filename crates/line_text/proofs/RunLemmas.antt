-- A run grows by one command, and so do its text and its count of refusals.
use Rattle.std.proofs.Common.{inl, inr, ◌≡◌, ◌<◌, ◌≤◌, ℕ, ◌+◌, cond, List, [], ◌∷◌, ◌++◌, Option}
use Rattle.std.proofs.Common.{append_assoc, drop, get_or, length, take, refl, sym, ap, ◌∙◌, subst}
use Rattle.std.proofs.Common.{arith}
use Rattle.std.specs.Prelude.{◌⊎◌, Bool, Err, IfErr, Ok, Result}
use Rattle.std.proofs.lemmas.List.{append-nil, drop_more, length-drop, take_more}
use Rattle.line_claims.specs.declared.faults.TextFault.{TextFault}
use Rattle.line_claims.specs.Reads.{IsOfText, no_memory}
use Rattle.line_fields.specs.Texts.{records_text}
use Rattle.line_live.specs.Lives.{LiveMachine}
use Rattle.line_scripts.specs.declared.commands.Command.{Command}
use Rattle.line_devices.specs.Devices.{Puts, PutsButEnd, PutsFront}
use Rattle.line_devices.proofs.PutLemmas.{front_of_front, holds_all, holds_more, puts_front_of_held}
use Rattle.line_devices.proofs.PutLemmas.{puts_of_held}
use Rattle.line_text.specs.Answers.{DoesFront, TellsAll, CommandAnswer, refusals, text_of}
use Rattle.line_text.specs.Answers.{command_answer_records}
use Rattle.line_text.proofs.AnswerLemmas.{TellsAll-both, one_refusal, refusals-push}
use Rattle.line_text.proofs.AnswerLemmas.{refusals_one, text_of-append, text_of-one}
use Rattle.line_text.specs.declared.ends.TheConstants.{WRITE_FAULT}
use Rattle.line_text.specs.Runs.{DoesOne, IsOfRun, IsRunTo, Runs, RunsFront, RunsText}
use Rattle.line_text.specs.Runs.{RunsTextFront, StopsAt, StopsText, first_of}
use Rattle.line_scripts.specs.RunScripts.{RunScript, run_script_of_text}
use Rattle.std.proofs.Math.Seq.{take-add}

-- commands that stopped, of whose text a front was put
pub stops_front : (first : LiveMachine) (commands : List Command) (i : ℕ)
    (old new : Option (List ℕ)) → StopsAt first commands i (λ text. PutsFront old new text)
    → RunsFront first commands old new
stops_front first commands i old new h =
    let more : List CommandAnswer = h.next.told in
    let all : List CommandAnswer = h.told ++ more in
    let text : text_of all ≡ (text_of h.told ++ h.own) ++ h.next.rest =
    text_of-append h.told more ∙ ap (λ (t : List ℕ). text_of h.told ++ t) h.next.text ∙ sym
    (append_assoc (text_of h.told) h.own h.next.rest) in
    let run : TellsAll first
    (take i commands ++ take (length more) (drop i commands)) all h.next.end =
    TellsAll-both first h.end h.next.end (take i commands)
    (take (length more) (drop i commands)) h.told more h.run h.next.run in
    record {
      done = i + length more;
      told = all;
      end = h.next.end;
      run = subst (λ (cs : List Command). TellsAll first cs all h.next.end)
          (sym (take-add i (length more) commands)) run;
      text = subst (λ (t : List ℕ). PutsFront old new t) (sym text)
          (front_of_front old new (text_of h.told ++ h.own) h.next.rest h.text);
    }

-- the text of commands that stopped, seen otherwise
pub stops_with : (first : LiveMachine) (commands : List Command) (i : ℕ) (P Q : List ℕ → Type 0)
    → ((text : List ℕ) → P text → Q text) → StopsAt first commands i P → StopsAt first commands i Q
stops_with first commands i P Q f h = record {
  told = h.told;
  end = h.end;
  own = h.own;
  there =
      h.there;
  run = h.run;
  next = h.next;
  text = f (text_of h.told ++ h.own) h.text;
}

-- the first of the commands that are left
pub first_left : (all left rest : List Command) (i : ℕ) (c : Command) → left ≡ drop i all
    → left ≡ c ∷ rest → (i < length all) × (c ≡ get_or all i c) × (rest ≡ drop (i + 1) all)
first_left all left rest i c is first =
    let parts : drop i all ≡ c ∷ rest = sym is ∙ first in
    let lt : i < length all = omega (arith, length-drop i all, ap length parts) in
    let same : c ∷ rest ≡ get_or all i c ∷ drop (i + 1) all = sym parts ∙ drop_more all i c lt in
    (lt, ap (λ (cs : List Command). get_or cs 0 c) same, ap (λ (cs : List Command). drop 1 cs) same)

-- all were done where none is left
pub none_left : (all left : List Command) (i : ℕ) → left ≡ drop i all → left ≡ [] → i ≤ length all
    → i ≡ length all
none_left all left i is none le = let parts : drop i all
    ≡ [] = sym is ∙ none in omega (arith, le, length-drop i all, ap length parts)

-- none is left: the run is whole
pub run_whole : (first mid later : LiveMachine) (all left : List Command) (i : ℕ)
    (refused count : ℕ) (old now new : Option (List ℕ)) (held kept : List ℕ) → left ≡ drop i all
    → left ≡ [] → i ≤ length all
    → IsRunTo first all i mid refused old now held → later ≡ mid → new ≡ now → kept ≡ held
    → count ≡ refused → IsRunTo first all (length all) later count old new kept
run_whole first mid later all left i refused count old now new held kept is none le run same_machine
    same_taken same_held same_count =
    let whole : i ≡ length all = none_left all left i is none le in
    rw (same_machine, same_taken, same_held, same_count)
    (subst (λ (d : ℕ). IsRunTo first all d mid refused old now held) whole run)

-- no command was done yet
pub starts : (first : LiveMachine) (commands : List Command) (taken : Option (List ℕ))
    (held : List ℕ) → held ≡ [] → IsRunTo first commands 0 first 0 taken taken held
starts first commands taken held none = record {
  told = [];
  run = refl;
  count = refl;
  few = omega arith;
  text = subst (λ (t : List ℕ). PutsButEnd taken taken held t) none (holds_all taken held);
}

-- one command more was done
pub does_on : (first mid later : LiveMachine) (commands : List Command) (i : ℕ) (command : Command)
    (refused count : ℕ) (old now new : Option (List ℕ)) (held kept : List ℕ) → i < length commands
    → command ≡ get_or commands i command
    → IsRunTo first commands i mid refused old now held → DoesOne mid command later now new held
    refused kept count → IsRunTo first commands (i + 1) later count old new kept
does_on first mid later commands i command refused count old now new held kept lt is before did =
    let one : CommandAnswer = did.does.told in
    let more : take (i + 1) commands ≡ take i commands ++ command ∷ [] = take_more commands i
    command lt ∙ ap (λ (x : Command). take i commands ++ x ∷ []) (sym is) in
    let told : List CommandAnswer = before.told ++ one ∷ [] in
    let now_held : PutsButEnd old now (held ++ records_text (command_answer_records one))
    (text_of before.told ++ records_text (command_answer_records one)) = holds_more old now held
    (text_of before.told) (records_text (command_answer_records one)) before.text in
    let text : text_of told
    ≡ text_of before.told ++ records_text (command_answer_records one) = text_of-append
    before.told (one ∷ []) ∙ ap (λ (t : List ℕ). text_of before.told ++ t) (text_of-one one) in
    let put : PutsButEnd old new kept
    (text_of before.told ++ records_text (command_answer_records one)) = puts_of_held old now
    new (held ++ records_text (command_answer_records one)) kept
    (text_of before.told ++ records_text (command_answer_records one)) now_held did.does.put in
    let counted : refusals (one ∷ []) ≡ cond did.one 1 0 = one_refusal one ∙ ap
    (λ (b : Bool). cond b 1 0) (sym did.does.counted) in
    record {
      told = told;
      run = subst (λ (cs : List Command). TellsAll first cs told later) (sym more)
          (TellsAll-both first mid later (take i commands) (command ∷ []) before.told
          (one ∷ []) before.run (later, did.does.tells, refl));
      count = did.counted ∙ ap (λ n. n + cond did.one 1 0) before.count ∙ ap
          (λ n. refusals before.told + n) (sym counted) ∙ sym (refusals-push before.told one);
      few = omega (arith, did.counted, before.few, counted, refusals_one one);
      text = subst (λ (t : List ℕ). PutsButEnd old new kept t) (sym text) put;
    }

-- one command more was done, and the sink failed at what it was told
pub front_in : (first mid later : LiveMachine) (commands : List Command) (i : ℕ) (command : Command)
    (refused : ℕ) (old now new : Option (List ℕ)) (held : List ℕ) → i < length commands
    → command ≡ get_or commands i command
    → IsRunTo first commands i mid refused old now held → DoesFront mid command later now new held
    → RunsFront first commands old new
front_in first mid later commands i command refused old now new held lt is before did =
    let one : CommandAnswer = did.told in
    let more : take (i + 1) commands ≡ take i commands ++ command ∷ [] = take_more commands i
    command lt ∙ ap (λ (x : Command). take i commands ++ x ∷ []) (sym is) in
    let told : List CommandAnswer = before.told ++ one ∷ [] in
    let now_held : PutsButEnd old now (held ++ records_text (command_answer_records one))
    (text_of before.told ++ records_text (command_answer_records one)) = holds_more old now held
    (text_of before.told) (records_text (command_answer_records one)) before.text in
    let text : text_of told
    ≡ text_of before.told ++ records_text (command_answer_records one) = text_of-append
    before.told (one ∷ []) ∙ ap (λ (t : List ℕ). text_of before.told ++ t) (text_of-one one) in
    let put : PutsFront old new
    (text_of before.told ++ records_text (command_answer_records one)) = puts_front_of_held old
    now new (held ++ records_text (command_answer_records one))
    (text_of before.told ++ records_text (command_answer_records one)) now_held did.put in
    record {
      done = i + 1;
      told = told;
      end = later;
      run = subst (λ (cs : List Command). TellsAll first cs told later) (sym more)
          (TellsAll-both first mid later (take i commands) (command ∷ []) before.told
          (one ∷ []) before.run (later, did.tells, refl));
      text = subst (λ (t : List ℕ). PutsFront old new t) (sym text) put;
    }

-- memory did not suffice for a command, and nothing of it was put
pub stops_in : (first mid : LiveMachine) (commands : List Command) (i refused : ℕ) (old now new :
    Option (List ℕ)) (held later : List ℕ) → i < length commands → new ≡ now → later ≡ held
    → IsRunTo first commands i mid refused old now held
    → StopsAt first commands i (λ text. PutsButEnd old new later text)
stops_in first mid commands i refused old now new held later lt same_taken same_held before =
    record {
      told = before.told;
      end = mid;
      own = [];
      there = lt;
      run = before.run;
      next = record { told = []; end = mid; rest = []; one = omega arith; run = refl; text = refl };
      text = rw (same_taken, same_held) (subst (λ (t : List ℕ). PutsButEnd old now held t)
          (sym (append-nil (text_of before.told))) before.text);
    }

-- what is told of the commands of a script is told of the text that spells it
pub runs_text : (text : List ℕ) (script : RunScript) (refused : ℕ) (old new : Option (List ℕ))
    → run_script_of_text text ≡ Ok script → Runs (first_of script) script.commands refused old new
    → RunsText text refused old new
runs_text text script refused old new spelt runs =
    record { script = script; spelt = spelt; runs = runs }

pub front_of_text : (text : List ℕ) (script : RunScript) (old new : Option (List ℕ))
    → run_script_of_text text ≡ Ok script → RunsFront (first_of script) script.commands old new
    → RunsTextFront text old new
front_of_text text script old new spelt runs =
    record { script = script; spelt = spelt; runs = runs }

pub stops_text : (text : List ℕ) (script : RunScript) (i : ℕ) (old new : Option (List ℕ))
    → run_script_of_text text ≡ Ok script → (done : ℕ) × (i ≡ script.first + done)
    × StopsAt (first_of script) script.commands done (Puts old new) → StopsText text i old new
stops_text text script i old new spelt stopped =
    record { script = script; spelt = spelt; done = stopped.0; at = stopped.1; runs = stopped.2 }

-- a fault of a text that was read is the first one
pub fault_of_text : {A : Type 0} (read : Result A TextFault) (fault : TextFault)
    → (fault ≡ no_memory) ⊎ (read ≡ Err fault) → IsOfText fault → read ≡ Err fault
fault_of_text read fault (inl none) (inl low) = let zero : fault.code
    ≡ 0 = ap (λ (f : TextFault). f.code) none in absurd (omega (arith, zero, low.0))
fault_of_text read fault (inl none) (inr forty) = let zero : fault.code
    ≡ 0 = ap (λ (f : TextFault). f.code) none in absurd (omega (arith, zero, forty))
fault_of_text read fault (inr first) of_text = first

-- neither want of memory nor a failed sink is a fault by which a text is not run
not_of_run : (fault : TextFault) → (fault.code ≡ 0) ⊎ (fault.code ≡ WRITE_FAULT) → IsOfRun fault → ⊥
not_of_run fault (inl none) (inl (inl low)) = omega (arith, none, low.0)
not_of_run fault (inl none) (inl (inr forty)) = omega (arith, none, forty)
not_of_run fault (inl none) (inr names) = omega (arith, none, names)
not_of_run fault (inr write) (inl (inl low)) =
    let sink : fault.code ≡ 37 = write in omega (arith, sink, low.1)
not_of_run fault (inr write) (inl (inr forty)) =
    let sink : fault.code ≡ 37 = write in omega (arith, sink, forty)
not_of_run fault (inr write) (inr names) =
    let sink : fault.code ≡ 37 = write in omega (arith, sink, names)

pub begun_once : {A : Type 0} (result : Result A TextFault) (P : TextFault → Type 0)
    → IfErr result (λ fault. (fault.code ≡ 0) ⊎ (fault.code ≡ WRITE_FAULT))
    → IfErr result (λ fault. IsOfRun fault → P fault)
begun_once (Ok x) P h = tt
begun_once (Err fault) P h = λ of_run. absurd (not_of_run fault h of_run)
