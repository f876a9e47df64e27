use Rattle.line_text.proofs.rounds.put_channel_message.Goals as goal

pub returns : goal.returns
returns g c = rw (c.get-sender.ensures.value, c.get-receiver.ensures.value, c.sends-lost.ensures) at
    c.put_numbers.ensures
