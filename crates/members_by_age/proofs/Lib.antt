mod AgedLaws
