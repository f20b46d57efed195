use Rattle.macro_query.proofs.unit_report.report.Given as goal

abbrev pub ghosts-report_of : goal.ghosts-report_of
ghosts-report_of a = record { name = a.blank.name; parts = a.blank.parts }
