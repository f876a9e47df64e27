use Rattle.std.proofs.Common.{◌≡◌, ◌≤◌, ◌+◌, ◌-◌, ◌++◌, ◌∙◌, List, ℕ, ap, append_assoc, arith, drop}
use Rattle.std.proofs.Common.{length, take}
use Rattle.std.proofs.lemmas.List.{length-drop, length-take-le, take-take}
use Rattle.line_text.proofs.WindowLemmas.{filled_behind, front_of}
use Rattle.line_text.proofs.windows.hear.Goals as goal

pub returns-clause-moves : goal.returns-clause-moves
returns-clause-moves g c =
    let held : ℕ = c.args.window.now.held in
    let count : ℕ = c.in_ok-count.count in
    let into : List ℕ = c.fill.new.into in
    let room : List ℕ = c.deref_mut.result.now in
    let within : held ≤ length room = omega
    (arith, c.requires, ap (length {A = ℕ}) c.deref_mut.ensures.value) in
    let slice : length (take (length room - held) (drop held room))
    ≡ length room - held = length-take-le (length room - held) (drop held room)
    (omega (arith, length-drop held room)) in
    let few : count ≤ length into = omega (arith, c.fill.auto.into, c.in_ok-count.ensures.within) in
    let whole : held + count ≤ length room = omega
    (arith, within, slice, c.in_ok-count.ensures.within) in
    record {
      bytes = take count into;
      long = length-take-le count into few;
      behind =
          take-take (held + count) _ _ (omega (arith, whole, c.deref_mut.ensures.len))
          ∙ filled_behind held count room _ _ within (append_assoc (take held room) _ _)
          ∙ ap (λ (t : List ℕ). take held room ++ t) (front_of count into _ _ few)
          ∙ ap (λ (t : List ℕ). take held t ++ take count into) c.deref_mut.ensures.value;
      moved = c.in_ok-count.ensures.moves;
    }
