-- What the stores in memory tell of their failures, by their alarm: only armed calls fail.
use Rattle.std.specs.Prelude.{Option, [], true}
use Rattle.mar_store.specs.Watch.{Follows, Watch}
use Rattle.mar_store.specs.declared.alarm.Alarm.{Alarm}

abbrev pub alarm_watch : Option Follows → Alarm → Watch
alarm_watch keeps alarm = record { faults = alarm.faults; due = alarm.due.items; armable = true; only_armed = true; keeps = keeps }

-- a store that never failed and has no armed call
abbrev pub fresh_watch : Option Follows → Watch
fresh_watch keeps = record { faults = 0; due = []; armable = true; only_armed = true; keeps = keeps }
