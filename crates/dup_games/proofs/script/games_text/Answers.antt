use Rattle.dup_games.specs.Games.{athletes, day_of_event, each_to, end, home, new_event, nodes, site}
use Rattle.dup_games.proofs.Appending.{behind}
use Rattle.dup_games.proofs.script.games_text.Goals as goal

pub returns : goal.returns
returns c =
    let n = c.args.events in
    behind (end n)
    (behind (each_to day_of_event n)
    (behind home
    (behind (each_to new_event n)
    (behind athletes
    (behind nodes (behind site c.new-out.ensures.items c.in_ok-put.ensures) c.in_ok-put-2.ensures)
    c.in_ok-put_athletes.ensures)
    c.in_ok-put_events.ensures)
    c.in_ok-put-3.ensures)
    c.in_ok-put_days.ensures)
    c.in_ok-put_end.ensures
