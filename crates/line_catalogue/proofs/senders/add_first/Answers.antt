-- What was kept, alone or with the row.
use Rattle.std.proofs.Common.{◌≡◌, ◌<◌, ◌+◌, ◌++◌, ◌∷◌, [], ℕ, Bool, true, false, cond, List}
use Rattle.std.proofs.Common.{length, map, get_or, sym, ap, ◌∙◌, subst, append-nil, arith, inl, inr}
use Rattle.std.specs.List.{All, Contains}
use Rattle.std.proofs.lemmas.Bool.{cases_lt}
use Rattle.std.proofs.lemmas.List.{append_assoc, get_or-map, length-map}
use Rattle.std.proofs.lemmas.List.Elements.{Contains-append_left, Contains-append_right}
use Rattle.line_names.specs.declared.choices.Choice.{Choice}
use Rattle.line_names.specs.declared.messages.MsgName.{MsgName}
use Rattle.line_tape.specs.Event.{sends}
use Rattle.line_tape.specs.History.{Process}
use Rattle.line_tape.specs.Line.{events_before}
use Rattle.line_tape.specs.Transit.{has_received}
use Rattle.line_catalogue.specs.Left.{messages_of, open_first}
use Rattle.line_catalogue.proofs.LeftLemmas.{in_map}
use Rattle.line_catalogue.proofs.OpenLemmas.{flipped, open-told}
use Rattle.line_catalogue.proofs.SenderLemmas.{among-messages_of, from-messages_of, gap-messages_of}
use Rattle.line_catalogue.proofs.SenderLemmas.{in-messages_of, rising-messages_of}
use Rattle.line_catalogue.proofs.senders.add_first.Goals.{then-message-sender+then-is_open+in_ok-push}
use Rattle.line_catalogue.proofs.senders.add_first.Goals.{else-message-sender}
use Rattle.line_catalogue.proofs.senders.add_first.Goals.{else-message-sender-via-then-message-sender+else-is_open}
use Rattle.line_catalogue.proofs.senders.add_first.Goals.{else-message-sender-via-else-message-sender}
use Rattle.line_catalogue.proofs.senders.add_first.Goals as goal

pub messages_of-kept-requires : goal.messages_of-kept-requires
messages_of-kept-requires c = c.requires.order.senders

pub loop-message-init : goal.loop-message-init
loop-message-init c = λ b low passed next.
    let history : List Process = c.args.history.now.processes in
    let line : List Choice = c.args.line.now in
    let old : List MsgName = c.args.messages.now.items in
    sym (append-nil old) ∙ ap (λ (xs : List MsgName). old ++ xs)
    (gap-messages_of history line c.args.sender.now.p c.args.sender.now.end
    c.args.sender.now.row.now c.args.sender.now.left.now c.messages_of-kept.result.now
    c.messages_of-kept.ensures
    (c.is_empty.ensures.0 c.if-is_empty.true) c.requires.order c.requires.end c.requires.held 0
    0 b (omega arith) low (λ j l. absurd (omega (arith, l))) next)

pub is_open-requires-clause-own : goal.is_open-requires-clause-own
is_open-requires-clause-own c =
    let p : ℕ = c.args.sender.now.p in
    let is : c.messages_of-kept.result.now
    ≡ messages_of p c.args.sender.now.left.now = c.messages_of-kept.ensures in
    ap (λ (x : MsgName). x.from) c.message-item.is ∙ subst
    (All (λ (x : MsgName). x.from ≡ p)) (sym is)
    (from-messages_of p c.args.sender.now.left.now) c.loop-message.message-index
    c.message-item.result (omega arith)

pub is_open-requires-clause-kept : goal.is_open-requires-clause-kept
is_open-requires-clause-kept c =
    let m : MsgName = c.message-item.result in
    among-messages_of c.args.sender.now.p c.args.sender.now.left.now m
    (subst (λ (ms : List MsgName). Contains ms m) c.messages_of-kept.ensures
    (c.loop-message.message-index, omega arith, sym c.message-item.is))

pub loop-message-preserved : goal.loop-message-preserved
loop-message-preserved c = λ b low passed next.
    let history : List Process = c.args.history.now.processes in
    let line : List Choice = c.args.line.now in
    let p : ℕ = c.args.sender.now.p in
    let end : ℕ = c.args.sender.now.end in
    let left : List MsgName = c.args.sender.now.left.now in
    let kept : List MsgName = c.messages_of-kept.result.now in
    let is : kept ≡ messages_of p left = c.messages_of-kept.ensures in
    let row : List ℕ = map (λ (m : MsgName). m.number) kept in
    let old : List MsgName = c.args.messages.now.items in
    let i : ℕ = c.loop-message.message-index in
    let m : MsgName = c.message-item.result in
    let within : i < length kept = omega arith in
    let number : ℕ = m.number in
    let at : get_or row i 0 ≡ number = get_or-map (λ (x : MsgName). x.number) kept i m 0 within ∙ ap
    (λ (x : MsgName). x.number) (sym c.message-item.is) in
    let own : m.from ≡ p = ap (λ (x : MsgName). x.from) c.message-item.is ∙ subst
    (All (λ (x : MsgName). x.from ≡ p)) (sym is) (from-messages_of p left) i m within in
    let earlier : (j : ℕ) → j < i → get_or row j 0 < number = λ j l.
    let rises : get_or row j 0 < get_or row i 0 = subst
    (λ (ms : List MsgName). i < length ms
    → get_or (map (λ (x : MsgName). x.number) ms) j 0 < get_or (map (λ (x : MsgName). x.number)
    ms) i 0) (sym is) (rising-messages_of p left c.requires.order j i 0 l) within in
    omega (arith, rises, at)
    in
    let sent = c.requires.sent m (among-messages_of p left m
    (subst (λ (ms : List MsgName). Contains ms m) is (i, within, sym c.message-item.is))) in
    let so : List MsgName = open_first history line m.from number in
    let received : Bool = has_received (events_before history line sent.0) m in
    let so_far : number < end → c.loop-message.messages.items ≡ old ++ so = λ below.
    c.loop-message.invariant number (omega (arith, below)) (λ j l. inl (earlier j l))
    (λ _. omega (arith, at)) ∙ ap (λ (k : ℕ). old ++ open_first history line k number) (sym own)
    in
    let grown : number < end → (x : Bool) → received ≡ x
    → open_first history line m.from (number + 1) ≡ so ++ cond x [] (m ∷ []) = λ below x e.
    let few : number < sends (events_before history line m.from) = omega
    (arith, below, c.requires.end, ap (λ (k : ℕ). sends (events_before history line k)) own) in
    open-told history line m.from number m.inc sent.0 few sent.1.held sent.1.to_is ∙ ap
    (λ y. so ++ cond y [] (m ∷ [])) e
    in
    let onward : number < end → old ++ open_first history line m.from (number + 1)
    ≡ old ++ open_first history line p b = λ below.
    let under : number < b = elim (passed i (omega arith)) [
      | inl a ↦ omega (arith, a, at)
      | inr e ↦ absurd (omega (arith, e, at, below))
    ] in
    let none : open_first history line p (number + 1)
    ≡ open_first history line p b = gap-messages_of history line p end c.args.sender.now.row.now
    left kept is
    (c.is_empty.ensures.0 c.if-is_empty.true) c.requires.order c.requires.end c.requires.held
    (i + 1) (number + 1) b (omega (arith, under)) low (λ j l. elim (cases_lt j i) [
      | inl before ↦ inl (omega (arith, earlier j before))
      | inr here ↦
          let same : j ≡ i = omega (arith, l, here) in
          inl (omega (arith, at, ap (λ (k : ℕ). get_or row k 0) same))
    ]) next in
    ap (λ (k : ℕ). old ++ open_first history line k (number + 1)) own ∙ ap
    (λ (xs : List MsgName). old ++ xs) none
    in
    elim c.if-message-sender.branch [
      | then-message-sender+then-is_open+in_ok-push w ↦
          let below : number < end = w.if-message-sender.true in
          let unseen : received ≡ false = flipped received true
          (sym (w.is_open.ensures sent.0 sent.1) ∙ w.if-is_open.true) in
          ap (λ u. u.items) w.messages-is ∙ w.in_ok-push.ensures.items ∙ ap
          (λ (xs : List MsgName). xs ++ m ∷ []) (so_far below) ∙ append_assoc old so (m ∷ []) ∙
          ap (λ (xs : List MsgName). old ++ xs) (sym (grown below false unseen)) ∙ onward below
      | else-message-sender w ↦ ap
          (λ u. u.items) w.messages-is ∙ elim w.else-message-sender.branch [
            | else-message-sender-via-then-message-sender+else-is_open v ↦
                let below : number < end = v.if-message-sender.true in
                let seen : received ≡ true = flipped received false
                (sym (v.is_open.ensures sent.0 sent.1) ∙ v.if-is_open.false) in
                so_far below ∙ ap (λ (xs : List MsgName). old ++ xs)
                (sym (grown below true seen ∙ append-nil so)) ∙ onward below
            | else-message-sender-via-else-message-sender v ↦ c.loop-message.invariant b low (λ j l.
                passed j (omega (arith, l)))
                (λ _. omega (arith, at, low, v.if-message-sender.false))
          ]
    ]

pub returns-then-is_empty : goal.returns-then-is_empty
returns-then-is_empty c =
    let kept : List MsgName = c.messages_of-kept.result.now in
    let row : List ℕ = map (λ (m : MsgName). m.number) kept in
    c.loop-message.invariant c.args.sender.now.end (omega arith)
    (λ j l. elim (cases_lt (get_or row j 0) c.args.sender.now.end) [
      | inl below ↦ inl below
      | inr above ↦ inr (omega (arith, above))
    ]) (λ l. absurd
    (omega (arith, l, c.loop-message-test.false, length-map kept (λ (m : MsgName). m.number))))

pub add_old-requires-clause-held : goal.add_old-requires-clause-held
add_old-requires-clause-held c = λ q m from low sent unseen.
    let own : List MsgName = messages_of c.args.sender.now.p c.args.sender.now.left.now in
    let old : List ℕ = c.args.sender.now.row.now in
    let of : List MsgName → List ℕ = λ ms. map (λ (x : MsgName). x.number) ms in
    let among : Contains (of own ++ old) m.number = elim
    (c.requires.held q m from low sent unseen) [
      | inl row ↦ Contains-append_right (of own) old m.number row
      | inr left ↦ Contains-append_left (of own) old m.number (in_map (λ (x : MsgName). x.number)
          own m (in-messages_of c.args.sender.now.p c.args.sender.now.left.now m from left))
    ] in
    subst (λ (row : List ℕ). Contains row m.number) (sym c.as_slice-row.ensures)
    (c.in_ok-both.ensures.kept m.number (subst (λ (ms : List MsgName). Contains
    (of ms ++ old) m.number) (sym c.messages_of-kept.ensures) among))
